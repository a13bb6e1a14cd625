-- The mode answer: its words, and the statuses that it ends with.
use Rattle.std.specs.Prelude.{◌≡◌, ◌≢◌, ℕ, ◌+◌, List, [], ◌∷◌, Option, None, IsTrue, IfErr}
use Rattle.std.specs.Option.{option_and_then}
use Rattle.std.specs.Bool.{then_some}
use Rattle.std.specs.declared.result.Result.{Result}
use Rattle.std.specs.declared.result.Result.TheVariants.{Ok, Err}
use Rattle.px_core.specs.declared.surface.Size.{Size}
use Rattle.px_core.specs.Rectangle.{is_session_size}
use Rattle.line_text.specs.Numbers.{number_up_to}
use Rattle.script_rules.specs.Script.{is_name, size_with}
use Rattle.answer_run.specs.Serves.{IsNumberedFault, RunsAnswer}
use Rattle.answer_run.specs.Visits.{ReadsCause, WritesCause}
use Rattle.answer_run.specs.declared.fault.AnswerFault.{AnswerFault}
use Rattle.answer_run.specs.declared.fault.AnswerFault.TheVariants as fault
use Rattle.host_program.specs.declared.answering.Client.{Client}
use Rattle.edge_io.specs.Outside.{Outside}

-- the owner of a session with a picture of this size
abbrev pub client_with : Size → List ℕ → Client
client_with size owner = record { size = size; owner = owner }

-- columns and rows of pixels, as words
abbrev pub size_of_words : List ℕ → List ℕ → Option Size
size_of_words w h = option_and_then (λ m. option_and_then (size_with m) (number_up_to 2048 h)) (number_up_to 2048 w)

-- columns, rows and the owner's name, as words
abbrev pub client_of_words : List ℕ → List ℕ → List ℕ → Option Client
client_of_words w h owner = option_and_then (λ size. then_some (is_name owner) (client_with size owner)) (size_of_words w h)

-- the arguments of the mode
abbrev pub client_of_args : List (List ℕ) → Option Client
client_of_args [] = None
client_of_args (w ∷ []) = None
client_of_args (w ∷ h ∷ []) = None
client_of_args (w ∷ h ∷ owner ∷ []) = client_of_words w h owner
client_of_args (w ∷ h ∷ owner ∷ more ∷ args) = None

-- a client that may be served: its picture is a session's, and its owner has a name
pub record IsServable (client : Client) : Type 0 where
  pub size : IsTrue (is_session_size client.size.w client.size.h)
  pub owner : client.owner ≢ []

-- the exit status that an answer of a service is: 20 and the number of a refusal
abbrev pub answer_status : Result (Unit {0}) AnswerFault → ℕ
answer_status (Ok x) = 0
answer_status (Err (fault.Refused k at)) = 20 + k
answer_status (Err fault.Truncated) = 35
answer_status (Err fault.NotInvited) = 36
answer_status (Err fault.ReadFault) = 4
answer_status (Err fault.WriteFault) = 5
answer_status (Err fault.OutOfMemory) = 6

-- a client was served: 0 is that it left or asked for the end, 21 to 34 that its stream is refused, 35 that it was truncated, 36 that the name has no row, with its
-- whole answer written, in which its frames are never refused and show the journal; 4 is a fault of the source, whose count rose, behind exactly what is due for the
-- bytes that it had handed out; 5 and 6 are a fault of the sink, whose count rose, and want of memory, behind what is due for those before the last read and a front
-- of what is due for that one's
pub record RunsService (status : ℕ) (client : Client) (before now : Outside) : Type 0 where
  pub answer : Result (Unit {0}) AnswerFault
  pub status_is : status ≡ answer_status answer
  pub number : IfErr answer IsNumberedFault
  pub serves : RunsAnswer answer client.size client.owner before.input.left now.input.left before.output.told now.output.told
  pub read_cause : ReadsCause answer before.input.faults now.input.faults
  pub write_cause : WritesCause answer before.output.faults now.output.faults
