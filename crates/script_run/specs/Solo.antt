-- The one viewer of a script whose second line is no invite.
use Rattle.px_core.specs.declared.surface.Size.{Size}
use Rattle.session_rules.specs.Journal.{Head}
use Rattle.frame_rules.specs.Encoder.{Encoder}
use Rattle.script_rules.specs.Script.{ScriptReading, opened_reading, after_step, solo_rows, solo_join}
use Rattle.script_rules.specs.CaptureText.{Run, run_at_first, run_after, encoder_frames}

-- a run before its first step
abbrev pub first_run : Size → Run Encoder
first_run size = run_at_first encoder_frames size

-- the size, and the one row
abbrev pub solo_head : Size → Head
solo_head size = record { size = size; rows = solo_rows }

-- the script and its run behind the join
abbrev pub solo_reading : Size → ScriptReading
solo_reading size = after_step (opened_reading size solo_rows) solo_join.step

abbrev pub solo_run : Size → Run Encoder
solo_run size = run_after encoder_frames (solo_head size) (first_run size) solo_join
