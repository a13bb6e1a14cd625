-- How far a script's lines were done.
use Rattle.std.specs.Prelude.{◌≡◌, ℕ, List, ◌+◌, ◌<◌, ◌≤◌, Bool, true, false}
use Rattle.std.specs.declared.option.Option.{Option}
use Rattle.std.specs.declared.option.Option.TheVariants.{None}
use Rattle.std.specs.declared.result.Result.{Result}
use Rattle.std.specs.declared.result.Result.TheVariants.{Ok, Err}
use Rattle.line_text.specs.Lines.{script_limit}
use Rattle.frame_rules.specs.Encoder.{Encoder}
use Rattle.script_rules.specs.Script.{ScriptReading}
use Rattle.script_rules.specs.CaptureText.{Run}
use Rattle.script_run.specs.declared.fault.ScriptFault.{ScriptFault}
use Rattle.script_run.specs.declared.fault.ScriptFault.TheVariants as fault
use Rattle.script_run.specs.Run.{EndsWhereTold, refusal_at}
use Rattle.script_run.specs.Held.{IsFrontOf}
use Rattle.script_run.specs.Writing.{ByLines, Writing}
use Rattle.script_run.specs.Reading.{Moment, moment, ahead_of, WroteSomeLines, WroteAllLines, StopsReading, StopsInALine}

-- lines were done up to the k-th, behind which what does them stands for a reading and a run
pub record DidLinesTo (w : Writing) (whole : ByLines) (k : ℕ) (stands : ScriptReading → Run Encoder → Type 0) (before now : Moment) : Type 0 where
  pub r : ScriptReading
  pub run : Run Encoder
  pub standing : stands r run
  pub wrote : WroteSomeLines whole (w.from (k + 1) now.reading.at r run) before now

-- a run that stopped in a line would have come to this text, and of it a front was written
pub record StopsShort (whole : ByLines) (told : Option (List ℕ)) (before now : Moment) : Type 0 where
  pub text : Option (List ℕ)
  pub stops : StopsInALine whole before (moment now.reading now.left text)
  pub front : IsFrontOf told now.told text

-- what was done of the next line, the k-th, where the lines ahead give this: its step; nothing, since no line is left; or it was refused.
-- At another fault a front stands in the sink, of which this was told before
abbrev pub NextLineDone : Writing → Result Bool ScriptFault → ByLines → ℕ → (ScriptReading → Run Encoder → Type 0) → Option (List ℕ) → (before now : Moment)
    → Type 0
NextLineDone w (Ok true) whole k stands told before now =
    (before.reading.at < now.reading.at) × (now.reading.at ≤ script_limit) × DidLinesTo w whole k stands before now
NextLineDone w (Ok false) whole k stands told before now = EndsWhereTold (ahead_of before) (ahead_of now) × WroteAllLines whole None before now
NextLineDone w (Err (fault.Line line rule)) whole k stands told before now = (line ≡ k) × WroteAllLines whole (refusal_at line rule) before now
NextLineDone w (Err fault.ReadFault) whole k stands told before now = StopsReading whole before now
NextLineDone w (Err fault.WriteFault) whole k stands told before now = StopsShort whole told before now
NextLineDone w (Err fault.OutOfMemory) whole k stands told before now = StopsShort whole told before now

-- how far lines were done, where the lines ahead at first gave this: a line may follow, or none does
abbrev pub LinesDoneSoFar : Writing → Bool → ByLines → ℕ → (ScriptReading → Run Encoder → Type 0) → (before now : Moment) → Type 0
LinesDoneSoFar w true whole k stands before now =
    (k ≤ now.reading.at + 2) × (now.reading.at ≤ script_limit) × DidLinesTo w whole k stands before now
LinesDoneSoFar w false whole k stands before now = EndsWhereTold (ahead_of before) (ahead_of now) × WroteAllLines whole None before now

-- what was done of all lines ahead
abbrev pub AllLinesDone : Result (Unit {0}) ScriptFault → ByLines → (before now : Moment) → Type 0
AllLinesDone (Ok x) whole before now = EndsWhereTold (ahead_of before) (ahead_of now) × WroteAllLines whole None before now
AllLinesDone (Err (fault.Line line rule)) whole before now = WroteAllLines whole (refusal_at line rule) before now
AllLinesDone (Err fault.ReadFault) whole before now = StopsReading whole before now
AllLinesDone (Err fault.WriteFault) whole before now = StopsInALine whole before now
AllLinesDone (Err fault.OutOfMemory) whole before now = StopsInALine whole before now
