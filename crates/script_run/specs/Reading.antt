-- How far the lines of a script were read and done, and what was written of them.
use Rattle.std.specs.Prelude.{◌≡◌, ℕ, List, ◌++◌, Bool, true, false, ◌==◌, position, ⊤, IsTrue}
use Rattle.std.specs.Io.KnownBytes.{Appends, Consumes}
use Rattle.std.specs.declared.option.Option.{Option}
use Rattle.std.specs.declared.option.Option.TheVariants.{Some, None}
use Rattle.std.specs.declared.result.Result.{Result}
use Rattle.std.specs.declared.result.Result.TheVariants.{Ok, Err}
use Rattle.px_core.specs.declared.surface.Size.{Size}
use Rattle.px_core.specs.Rectangle.{is_session_size}
use Rattle.line_text.specs.Lines.{Line, lines_of}
use Rattle.edge_io.specs.Reading.{LineReading, ahead}
use Rattle.edge_io.specs.Faults.{Rose}
use Rattle.script_rules.specs.Script.{LineRefusal}
use Rattle.headline.specs.Fronts.{IsFront}
use Rattle.script_run.specs.declared.fault.ScriptFault.{ScriptFault}
use Rattle.script_run.specs.declared.fault.ScriptFault.TheVariants as fault
use Rattle.script_run.specs.declared.opening.FirstLine.{FirstLine}
use Rattle.script_run.specs.declared.opening.FirstLine.TheVariants as first
use Rattle.script_lines.specs.Lines.{number_of_rule}
use Rattle.script_lines.specs.declared.rule.LineRule.TheVariants as rule
use Rattle.script_run.specs.Done.{bytes_of_lines, ended_lines}
use Rattle.script_run.specs.Run.{Tells, EndsWhereTold, refusal_at}
use Rattle.script_run.specs.Writing.{ByLines, Follows, with_next, Writing, RefusesFirst}

-- ---- moments of a run

-- what is told at a moment of a run: what the reader holds, the bytes that the input has left, and what was written
pub record Moment : Type 0 where
  pub reading : LineReading
  pub left : Option (List ℕ)
  pub told : Option (List ℕ)

abbrev pub moment : LineReading → (left told : Option (List ℕ)) → Moment
moment reading left told = record { reading = reading; left = left; told = told }

-- the bytes ahead
abbrev pub ahead_of : Moment → Option (List ℕ)
ahead_of m = ahead m.reading m.left

-- lines were taken from the front of bytes: each was ended, and they are these bytes' lines whatever follows them
pub record TakesLinesOf (bytes left : List ℕ) (lines : List Line) : Type 0 where
  pub consumes : bytes ≡ bytes_of_lines lines ++ left
  pub are_lines : (more : List ℕ) → lines_of (bytes_of_lines lines ++ more) ≡ lines ++ lines_of more
  pub are_ended : (more : List Line) → ended_lines (lines ++ more) ≡ lines ++ ended_lines more

abbrev pub TakesLines : (before now : Option (List ℕ)) → List Line → Type 0
TakesLines None now lines = ⊤
TakesLines (Some bytes) None lines = ⊥
TakesLines (Some bytes) (Some left) lines = TakesLinesOf bytes left lines

-- some lines were done, and what they write was written
pub record WroteSomeLines (whole rest : ByLines) (before now : Moment) : Type 0 where
  pub lines : List Line
  pub text : List ℕ
  pub takes : TakesLines (ahead_of before) (ahead_of now) lines
  pub follows : Follows whole lines text rest
  pub written : Appends before.told now.told text

-- the lines ahead give this text and this refusal
abbrev pub AllLinesGive : Option (List ℕ) → ByLines → List ℕ → Option LineRefusal → Type 0
AllLinesGive ahead whole text refused = Tells ahead (λ bytes. (whole.writes (lines_of bytes) ≡ text) × (whole.refuses (lines_of bytes) ≡ refused))

-- the lines ahead were done up to their end, or to the one that is refused, and what they give was written
pub record WroteAllLines (whole : ByLines) (refused : Option LineRefusal) (before now : Moment) : Type 0 where
  pub text : List ℕ
  pub written : Appends before.told now.told text
  pub gives : AllLinesGive (ahead_of before) whole text refused

-- of these lines some were done, and a front of what the next one writes was written
pub record WroteDoneLines (whole : ByLines) (all : List Line) (told telling : Option (List ℕ)) : Type 0 where
  pub done : List Line
  pub rest : List Line
  pub front : List ℕ
  pub are_first : all ≡ done ++ rest
  pub written : Appends told telling (whole.so_far done ++ front)
  pub is_front : IsFront (whole.so_far done ++ front) (with_next whole done rest)

-- where the bytes ahead are told, their first lines were done, and a front of what the next one writes was written
abbrev pub StopsInALine : ByLines → (before now : Moment) → Type 0
StopsInALine whole before now = Tells (ahead_of before) (λ bytes. WroteDoneLines whole (lines_of bytes) before.told now.told)

-- the lines ahead were done up to a failed read, which leaves a part of a line
pub record StopsReading (whole : ByLines) (before now : Moment) : Type 0 where
  pub lines : List Line
  pub takes : TakesLines (ahead_of before) (ahead_of now) lines
  pub written : Appends before.told now.told (whole.so_far lines)
  pub part : position (λ b. b == 10) now.reading.held ≡ None

-- ---- the first line

-- what a script's first line gives: a size, and then the lines after it decide; or the rule that it breaks
abbrev pub Opens : Writing → FirstLine → (before now : Moment) → Type 0
Opens w (first.Sized size) before now =
    IsTrue (is_session_size size.w size.h) × WroteSomeLines w.script (w.rest size now.reading.at) before now
Opens w (first.Breaks broken) before now = Tells (ahead_of before) (λ bytes. RefusesFirst w (lines_of bytes) (number_of_rule broken))
Opens w first.Failed before now = StopsReading w.script before now

-- what a first line gives of which a size was read, or none
abbrev pub first_of : Option Size → Bool → FirstLine
first_of None ended = first.Breaks rule.Size
first_of (Some size) true = first.Sized size
first_of (Some size) false = first.Breaks rule.Text

-- a first line isn't read only where the count of faults rose, and any other answer leaves it
abbrev pub OpensCause : FirstLine → ℕ → ℕ → Type 0
OpensCause (first.Sized size) before now = now ≡ before
OpensCause (first.Breaks broken) before now = now ≡ before
OpensCause first.Failed before now = Rose before now

-- ---- a whole run

-- of a script's lines all were done, or all up to this one, which is refused
pub record WroteAll (whole : ByLines) (refused : Option LineRefusal) (all : List Line) (told telling : Option (List ℕ)) : Type 0 where
  pub written : Appends told telling (whole.writes all)
  pub refuses : whole.refuses all ≡ refused

-- what the whole lines write that the source handed out was written
pub record WroteHandedLines (whole : ByLines) (script : List ℕ) (left told telling : Option (List ℕ)) : Type 0 where
  pub lines : List Line
  pub more : List Line
  pub handed : List ℕ
  pub is_handed : Consumes (Some script) left handed
  pub are_whole : ended_lines (lines_of handed) ≡ lines
  pub are_first : lines_of script ≡ lines ++ more
  pub written : Appends told telling (whole.so_far lines)

-- a run did all lines of its script, and none is left; or all up to the first that breaks a rule. After a failed read exactly what the whole
-- lines write stands there that were handed out, and after a failed write, or want of memory, what the first lines write and a front of what
-- the next line, or the script's end, writes
abbrev pub RunsLines : Result (Unit {0}) ScriptFault → ByLines → (left rest told telling : Option (List ℕ)) → Type 0
RunsLines (Ok x) whole left rest told telling = Tells left (λ script. WroteAll whole None (lines_of script) told telling) × EndsWhereTold left rest
RunsLines (Err (fault.Line k broken)) whole left rest told telling = Tells left (λ script. WroteAll whole (refusal_at k broken) (lines_of script) told telling)
RunsLines (Err fault.ReadFault) whole left rest told telling = Tells left (λ script. WroteHandedLines whole script rest told telling)
RunsLines (Err fault.WriteFault) whole left rest told telling = Tells left (λ script. WroteDoneLines whole (lines_of script) told telling)
RunsLines (Err fault.OutOfMemory) whole left rest told telling = Tells left (λ script. WroteDoneLines whole (lines_of script) told telling)
