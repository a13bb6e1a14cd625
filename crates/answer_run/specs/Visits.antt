-- A client in code, and what its steps do.
use Rattle.std.specs.Prelude.{◌≡◌, ℕ, Bool, true, false, List, [], ◌∷◌, ⊤}
use Rattle.std.specs.Io.KnownBytes.{Appends}
use Rattle.std.specs.declared.option.Option.{Option}
use Rattle.std.specs.declared.option.Option.TheVariants.{Some, None}
use Rattle.std.specs.declared.result.Result.{Result}
use Rattle.std.specs.declared.result.Result.TheVariants.{Ok, Err}
use Rattle.edge_io.specs.Faults.{Rose}
use Rattle.edge_io.specs.Sink.{WritesFront}
use Rattle.session_rules.specs.Journal.{Head}
use Rattle.frame_rules.specs.Encoder.{Encoder}
use Rattle.frame_rules.specs.Describes.{HasAllCaches}
use Rattle.script_rules.specs.CaptureText.{Run, run_at_first, run_after_all, sent_from, encoder_frames}
use Rattle.conn_rules.specs.declared.conn_step.ConnStep.{ConnStep}
use Rattle.conn_rules.specs.declared.conn_step.ConnStep.TheVariants as step
use Rattle.answer_run.specs.Asking.{Guest, client, asked_from, guest_after_all}
use Rattle.answer_run.specs.Asking.Guest.{Coming, Viewing, TurnedAway}
use Rattle.answer_run.specs.Solos.{IsSeated, IsRunOf}
use Rattle.answer_run.specs.declared.solo.Solo.{Solo}
use Rattle.answer_run.specs.declared.visitor.Visitor.{Visitor}
use Rattle.answer_run.specs.declared.visitor.Visitor.TheVariants as visitor
use Rattle.answer_run.specs.declared.fault.AnswerFault.{AnswerFault}
use Rattle.answer_run.specs.declared.fault.AnswerFault.TheVariants as fault

-- the code's client is this one, and stands for this run
abbrev pub IsGuest : Head → Visitor → Guest → Run Encoder → Type 0
IsGuest head (visitor.Coming name) (Coming other) run = (name ≡ other) × (run ≡ run_at_first encoder_frames head.size)
IsGuest head (visitor.Coming name) Viewing run = ⊥
IsGuest head (visitor.Coming name) TurnedAway run = ⊥
IsGuest head (visitor.Viewing solo) (Coming other) run = ⊥
IsGuest head (visitor.Viewing solo) Viewing run = IsRunOf head solo run
IsGuest head (visitor.Viewing solo) TurnedAway run = ⊥

-- one that views is seated
abbrev pub IsReady : Visitor → Type 0
IsReady (visitor.Coming name) = ⊤
IsReady (visitor.Viewing solo) = IsSeated solo

-- the frames that steps give
abbrev pub frames_by : Head → Guest → Run Encoder → List ConnStep → List ℕ
frames_by head g run steps = sent_from encoder_frames head run (asked_from head g steps) client

-- the run after them
abbrev pub run_by_steps : Head → Guest → Run Encoder → List ConnStep → Run Encoder
run_by_steps head g run steps = run_after_all encoder_frames head run (asked_from head g steps)

-- steps were done, and their frames written; or the client isn't let in; or a front of the frames was written
abbrev pub DoesSteps : Result Bool AnswerFault → Head → Guest → Run Encoder → List ConnStep → Visitor → (told telling : Option (List ℕ)) → Type 0
DoesSteps (Ok true) head g run steps new told telling =
    IsGuest head new (guest_after_all head g steps) (run_by_steps head g run steps) × Appends told telling (frames_by head g run steps)
DoesSteps (Ok false) head g run steps new told telling =
    (guest_after_all head g steps ≡ TurnedAway) × Appends told telling (frames_by head g run steps)
DoesSteps (Err why) head g run steps new told telling = WritesFront told telling (frames_by head g run steps)

-- whatever client the code's one is, and whatever run it stands for
abbrev pub Visits : Result Bool AnswerFault → Head → List ConnStep → (old new : Visitor) → (told telling : Option (List ℕ)) → Type 0
Visits result head steps old new told telling = (g : Guest) (run : Run Encoder) → IsGuest head old g run → DoesSteps result head g run steps new told telling

-- a client that comes, by a step: it is still to come, or it views; or it isn't let in
abbrev pub Comes : Result (Option Visitor) AnswerFault → Head → List ℕ → ConnStep → (told telling : Option (List ℕ)) → Type 0
Comes (Ok (Some new)) head name one told telling = DoesSteps (Ok true) head (Coming name) (run_at_first encoder_frames head.size) (one ∷ []) new told telling
Comes (Ok None) head name one told telling =
    DoesSteps (Ok false) head (Coming name) (run_at_first encoder_frames head.size) (one ∷ []) (visitor.Coming name) told telling
Comes (Err why) head name one told telling = WritesFront told telling (frames_by head (Coming name) (run_at_first encoder_frames head.size) (one ∷ []))

-- a step of a viewer was done, and its frame written; or a front of the frame was
abbrev pub DoesAsked : Result (Unit {0}) AnswerFault → Head → Run Encoder → ConnStep → Solo → (told telling : Option (List ℕ)) → Type 0
DoesAsked (Ok x) head run one new told telling =
    IsRunOf head new (run_by_steps head Viewing run (one ∷ [])) × Appends told telling (frames_by head Viewing run (one ∷ []))
DoesAsked (Err why) head run one new told telling = WritesFront told telling (frames_by head Viewing run (one ∷ []))

-- whatever run it stands for
abbrev pub Asks : Result (Unit {0}) AnswerFault → ConnStep → (old new : Solo) → (told telling : Option (List ℕ)) → Type 0
Asks result one old new told telling = (head : Head) (run : Run Encoder) → IsRunOf head old run → DoesAsked result head run one new told telling

-- what is confirmed has all caches
abbrev pub HasCaches : ConnStep → Type 0
HasCaches (step.Named name) = ⊤
HasCaches (step.Ready confirmed) = HasAllCaches confirmed
HasCaches (step.Event event) = ⊤
HasCaches (step.Refresh area) = ⊤
HasCaches (step.Suppress stop) = ⊤
HasCaches step.Shutdown = ⊤
HasCaches step.Bye = ⊤
HasCaches step.Packet = ⊤

-- ---- causes

-- a write fails only where the count of faults rose, and any other answer leaves it
abbrev pub WritesCause : {T : Type 0} → Result T AnswerFault → ℕ → ℕ → Type 0
WritesCause (Ok x) before now = now ≡ before
WritesCause (Err (fault.Refused k at)) before now = now ≡ before
WritesCause (Err fault.Truncated) before now = now ≡ before
WritesCause (Err fault.NotInvited) before now = now ≡ before
WritesCause (Err fault.ReadFault) before now = now ≡ before
WritesCause (Err fault.WriteFault) before now = Rose before now
WritesCause (Err fault.OutOfMemory) before now = now ≡ before

-- likewise a read
abbrev pub ReadsCause : {T : Type 0} → Result T AnswerFault → ℕ → ℕ → Type 0
ReadsCause (Ok x) before now = now ≡ before
ReadsCause (Err (fault.Refused k at)) before now = now ≡ before
ReadsCause (Err fault.Truncated) before now = now ≡ before
ReadsCause (Err fault.NotInvited) before now = now ≡ before
ReadsCause (Err fault.ReadFault) before now = Rose before now
ReadsCause (Err fault.WriteFault) before now = now ≡ before
ReadsCause (Err fault.OutOfMemory) before now = now ≡ before

-- a fault of a write
abbrev pub IsWriteFault : AnswerFault → Type 0
IsWriteFault (fault.Refused k at) = ⊥
IsWriteFault fault.Truncated = ⊥
IsWriteFault fault.NotInvited = ⊥
IsWriteFault fault.ReadFault = ⊥
IsWriteFault fault.WriteFault = ⊤
IsWriteFault fault.OutOfMemory = ⊤

-- a fault that ends a service early
abbrev pub IsFault : AnswerFault → Type 0
IsFault (fault.Refused k at) = ⊥
IsFault fault.Truncated = ⊥
IsFault fault.NotInvited = ⊥
IsFault fault.ReadFault = ⊤
IsFault fault.WriteFault = ⊤
IsFault fault.OutOfMemory = ⊤
