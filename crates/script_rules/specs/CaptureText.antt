-- The text of a capture, as a function of what a script asks, of its answers, and of the bytes of each frame (profile).
use Rattle.std.specs.Prelude.{ℕ, ◌==◌, if◌then◌else◌, List, [], ◌∷◌, ◌++◌, option_to_list}
use Rattle.px_core.specs.declared.surface.Size.{Size}
use Rattle.caps_sets.specs.declared.confirmed.Confirmed.{Confirmed}
use Rattle.caps_sets.specs.Confirmed.{plain}
use Rattle.session_rules.specs.declared.entry.Entry.{Entry}
use Rattle.session_rules.specs.Journal.{Head}
use Rattle.session_rules.specs.Steps.{Answer, TakeOf, Play, PerViewer, replaced_for, play_at_first, Outcome, outcome}
use Rattle.session_rules.specs.Steps.Answer.{Joined, Left, Accepted, Refused, Nothing, Frame}
use Rattle.frame_rules.specs.Encoder.{Encoder, first_encoder, pointed_bytes, encoder_after}
use Rattle.script_rules.specs.Script.{Asked, Script, Opening, opening_of, size_rule, text_rule}
use Rattle.script_rules.specs.Script.Opening.{NoSize, Unended, Opened}
use Rattle.script_rules.specs.Capture.{answer_line, viewer_of, broken_line, last_line}

-- how frames become bytes: what an encoder is before its first frame, the bytes of a take's frame over a journal, and the encoder after it, by the size and by
-- what its viewer confirmed
pub record FrameText (E : Type 0) : Type 0 where
  pub first : E
  pub bytes : Size → Confirmed → List Entry → E → TakeOf → List ℕ
  pub after : Size → Confirmed → List Entry → E → TakeOf → E

-- the bytes of frames, by the encoder, each behind the pointer that is told before it, if any
abbrev pub encoder_frames : FrameText Encoder
encoder_frames = record { first = first_encoder; bytes = pointed_bytes; after = encoder_after }

-- a run in its course: the session and its journal, and of each viewer what it confirmed and its encoder
pub record Run (E : Type 0) : Type 0 where
  pub play : Play
  pub journal : List Entry
  pub confirmed : PerViewer Confirmed
  pub encoders : PerViewer E

abbrev pub run_at_first : {E : Type 0} → FrameText E → Size → Run E
run_at_first frames size = record { play = play_at_first size; journal = []; confirmed = λ v. plain; encoders = λ v. frames.first }

-- the bytes of the frame that an answer to a viewer is
abbrev pub bytes_of_answer : {E : Type 0} → FrameText E → Size → Run E → ℕ → Answer → List ℕ
bytes_of_answer frames size run v (Joined u) = []
bytes_of_answer frames size run v Left = []
bytes_of_answer frames size run v Accepted = []
bytes_of_answer frames size run v (Refused refusal) = []
bytes_of_answer frames size run v Nothing = []
bytes_of_answer frames size run v (Frame take) = frames.bytes size (run.confirmed v) run.journal (run.encoders v) take

-- what each viewer confirmed, after an answer: a join's preset is its new viewer's
abbrev pub confirmed_after : PerViewer Confirmed → Asked → Answer → PerViewer Confirmed
confirmed_after confirmed a (Joined u) = replaced_for u a.confirmed confirmed
confirmed_after confirmed a Left = confirmed
confirmed_after confirmed a Accepted = confirmed
confirmed_after confirmed a (Refused refusal) = confirmed
confirmed_after confirmed a Nothing = confirmed
confirmed_after confirmed a (Frame take) = confirmed

-- each viewer's encoder, after an answer
abbrev pub encoders_after : {E : Type 0} → FrameText E → Size → Run E → ℕ → Answer → PerViewer E
encoders_after frames size run v (Joined u) = run.encoders
encoders_after frames size run v Left = run.encoders
encoders_after frames size run v Accepted = run.encoders
encoders_after frames size run v (Refused refusal) = run.encoders
encoders_after frames size run v Nothing = run.encoders
encoders_after frames size run v (Frame take) = replaced_for v (frames.after size (run.confirmed v) run.journal (run.encoders v) take) run.encoders

abbrev pub run_by : {E : Type 0} → FrameText E → Size → Run E → Asked → Outcome → Run E
run_by frames size run a o = record {
  play = o.play;
  journal = run.journal ++ option_to_list o.entry;
  confirmed = confirmed_after run.confirmed a o.answer;
  encoders = encoders_after frames size run (viewer_of a.step) o.answer;
}

-- the run after what is asked
abbrev pub run_after : {E : Type 0} → FrameText E → Head → Run E → Asked → Run E
run_after frames head run a = run_by frames head.size run a (outcome head run.play a.step)

-- the run after all that is asked
abbrev pub run_after_all : {E : Type 0} → FrameText E → Head → Run E → List Asked → Run E
run_after_all frames head run [] = run
run_after_all frames head run (a ∷ rest) = run_after_all frames head (run_after frames head run a) rest

abbrev pub line_by : {E : Type 0} → FrameText E → Size → Run E → Asked → Answer → List ℕ
line_by frames size run a answer = answer_line size a answer (bytes_of_answer frames size run (viewer_of a.step) answer)

-- the line of what is asked, in its turn
abbrev pub line_in_run : {E : Type 0} → FrameText E → Head → Run E → Asked → List ℕ
line_in_run frames head run a = line_by frames head.size run a (outcome head run.play a.step).answer

-- the lines of all that is asked, one after the other
abbrev pub lines_from : {E : Type 0} → FrameText E → Head → Run E → List Asked → List ℕ
lines_from frames head run [] = []
lines_from frames head run (a ∷ rest) = line_in_run frames head run a ++ lines_from frames head (run_after frames head run a) rest

abbrev pub sent_by : {E : Type 0} → FrameText E → Head → Run E → Asked → ℕ → List ℕ
sent_by frames head run a v =
    if viewer_of a.step == v then bytes_of_answer frames head.size run (viewer_of a.step) (outcome head run.play a.step).answer else []

-- the bytes that each viewer is sent for all that is asked, one frame after the other
abbrev pub sent_from : {E : Type 0} → FrameText E → Head → Run E → List Asked → ℕ → List ℕ
sent_from frames head run [] v = []
sent_from frames head run (a ∷ rest) v = sent_by frames head run a v ++ sent_from frames head (run_after frames head run a) rest v

-- the capture of a script: the lines of its answers, and the line of the first line that breaks a rule
abbrev pub capture_of_script : {E : Type 0} → FrameText E → Script → List ℕ
capture_of_script frames s = lines_from frames s.head (run_at_first frames s.head.size) s.asked ++ last_line s.refusal

abbrev pub capture_of_opening : {E : Type 0} → FrameText E → Opening → List ℕ
capture_of_opening frames NoSize = broken_line 1 size_rule
capture_of_opening frames Unended = broken_line 1 text_rule
capture_of_opening frames (Opened s) = capture_of_script frames s

-- the capture of a script's bytes
abbrev pub capture_of : {E : Type 0} → FrameText E → List ℕ → List ℕ
capture_of frames bytes = capture_of_opening frames (opening_of bytes)
