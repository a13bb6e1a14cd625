-- For which readings of a script, and for which runs, what does its lines stands.
use Rattle.std.specs.Prelude.{◌≡◌, ℕ, List, ◌++◌, Bool}
use Rattle.session_rules.specs.Journal.{Head, is_present}
use Rattle.frame_rules.specs.Encoder.{Encoder}
use Rattle.script_rules.specs.Script.{ScriptReading, Asked, after_step}
use Rattle.script_rules.specs.CaptureText.{Run, run_after, encoder_frames}
use Rattle.script_run.specs.Writing.{Writing}

-- what is seen of a script in its course: its size and rows, whether a step was asked for, and who is present
pub record Seen : Type 0 where
  pub head : Head
  pub begun : Bool
  pub here : ℕ → Bool

-- that stands for a reading of the script and for a run
pub record Stands (seen : Seen) (keeps : ScriptReading → Run Encoder → Type 0) (r : ScriptReading) (run : Run Encoder) : Type 0 where
  pub head : r.head ≡ seen.head
  pub begun : r.begun ≡ seen.begun
  pub here : (v : ℕ) → is_present v r.play.reached.viewers ≡ seen.here v
  pub kept : keeps r run

-- there are such a reading and such a run
pub record IsInCourse (stands : ScriptReading → Run Encoder → Type 0) : Type 0 where
  pub r : ScriptReading
  pub run : Run Encoder
  pub standing : stands r run

-- what is asked was done, and what it writes was appended
pub record DoesStep (w : Writing) (stands : ScriptReading → Run Encoder → Type 0) (r : ScriptReading) (run : Run Encoder) (a : Asked)
    (old new : List ℕ) : Type 0 where
  pub standing : stands (after_step r a.step) (run_after encoder_frames r.head run a)
  pub written : new ≡ old ++ w.step r run a
