-- Captures that were cut, in a line or between lines.
use Rattle.std.specs.Prelude.{◌≡◌, ℕ, List, ◌++◌, Option}
use Rattle.script_rules.specs.Script.{Asked, LineRefusal, Script}
use Rattle.script_rules.specs.CaptureText.{capture_of_script, encoder_frames}
use Rattle.headline.specs.Fronts.{script_of}

-- a front of the capture of a script's first steps, and of a last line where one is written
pub record IsCutCaptureOf (s : Script) (front : List ℕ) : Type 0 where
  pub steps : List Asked
  pub later : List Asked
  pub refusal : Option LineRefusal
  pub rest : List ℕ
  pub are_first : s.asked ≡ steps ++ later
  pub written : capture_of_script encoder_frames (script_of s.head steps refusal) ≡ front ++ rest
