-- What steps are answered, as the text of their lines and as answers.
use Rattle.std.specs.Prelude.{◌≡◌, ℕ, List, [], codes, Option, Some, None, Vec, ⊤}
use Rattle.px_core.specs.declared.surface.Size.{Size}
use Rattle.line_text.specs.Hexadecimal.{hexadecimal_text}
use Rattle.session_rules.specs.Journal.{Head}
use Rattle.session_rules.specs.Steps.{Step, Answer, TakeOf, outcome}
use Rattle.session_rules.specs.Steps.Answer.{Joined, Left, Accepted, Refused, Nothing, Frame}
use Rattle.frame_rules.specs.Encoder.{Encoder}
use Rattle.script_rules.specs.Capture.{ended, of_viewer, viewer_of, joined_line, refusal_line}
use Rattle.script_rules.specs.CaptureText.{Run, bytes_of_answer, encoder_frames}
use Rattle.script_lines.specs.Answers.{refusal_of}
use Rattle.script_run.specs.declared.answer.StepAnswer.{StepAnswer}
use Rattle.script_run.specs.declared.answer.StepAnswer.TheVariants as says

-- the line of an answer to a step of a viewer, 0 for a join, whose preset words these are; an accepted step has none
abbrev pub answer_text : Size → ℕ → List (List ℕ) → StepAnswer → List ℕ
answer_text size v preset (says.Joined u) = joined_line size u preset
answer_text size v preset says.Left = of_viewer v (codes "left")
answer_text size v preset says.Accepted = []
answer_text size v preset (says.Refused cause) = refusal_line v (refusal_of cause)
answer_text size v preset says.Nothing = of_viewer v (codes "nothing")
answer_text size v preset (says.Frame bytes) = of_viewer v (hexadecimal_text bytes.items)

-- what belongs behind the beginning of a frame's line: the digits of its bytes and a line feed
abbrev pub frame_end : {Z : Type 0} → Option (Vec ℕ Z) → List ℕ
frame_end None = []
frame_end (Some bytes) = ended (hexadecimal_text bytes.items)

-- an answer that is no frame, as a session's
abbrev pub answer_of : StepAnswer → Option Answer
answer_of (says.Joined u) = Some (Joined u)
answer_of says.Left = Some Left
answer_of says.Accepted = Some Accepted
answer_of (says.Refused cause) = Some (Refused (refusal_of cause))
answer_of says.Nothing = Some Nothing
answer_of (says.Frame bytes) = None

-- the step is accepted or refused
abbrev pub IsVerdict : StepAnswer → Type 0
IsVerdict (says.Joined u) = ⊥
IsVerdict says.Left = ⊥
IsVerdict says.Accepted = ⊤
IsVerdict (says.Refused cause) = ⊤
IsVerdict says.Nothing = ⊥
IsVerdict (says.Frame bytes) = ⊥

-- an answer says what a session answered, and the bytes of its frame
abbrev pub Says : StepAnswer → Answer → List ℕ → Type 0
Says (says.Joined u) answer frame = answer ≡ Joined u
Says says.Left answer frame = answer ≡ Left
Says says.Accepted answer frame = answer ≡ Accepted
Says (says.Refused cause) answer frame = answer ≡ Refused (refusal_of cause)
Says says.Nothing answer frame = answer ≡ Nothing
Says (says.Frame bytes) answer frame = (take : TakeOf) × (answer ≡ Frame take) × (bytes.items ≡ frame)

-- the line of a viewer's take that gave these bytes, or none, and what an answer must be that says so
abbrev pub given_text : ℕ → Option (List ℕ) → List ℕ
given_text v None = of_viewer v (codes "nothing")
given_text v (Some bytes) = of_viewer v (hexadecimal_text bytes)

abbrev pub Gave : Option (List ℕ) → Answer → List ℕ → Type 0
Gave None answer frame = answer ≡ Nothing
Gave (Some bytes) answer frame = (take : TakeOf) × (answer ≡ Frame take) × (bytes ≡ frame)

-- a take that gave these bytes, or none, is answered so
pub record IsGiven (sent : Option (List ℕ)) (s : StepAnswer) : Type 0 where
  pub text : (size : Size) (v : ℕ) (preset : List (List ℕ)) → answer_text size v preset s ≡ given_text v sent
  pub says : (answer : Answer) (frame : List ℕ) → Gave sent answer frame → Says s answer frame

-- it says what a step comes to in its turn of a run
abbrev pub SaysOutcome : Head → Run Encoder → Step → StepAnswer → Type 0
SaysOutcome head run step s =
    Says s (outcome head run.play step).answer (bytes_of_answer encoder_frames head.size run (viewer_of step) (outcome head run.play step).answer)
