-- What a run that records a script reads and writes.
use Rattle.std.specs.Prelude.{◌≡◌, ℕ, List, ◌++◌}
use Rattle.std.specs.Io.KnownBytes.{Appends, Consumes}
use Rattle.std.specs.declared.option.Option.{Option}
use Rattle.std.specs.declared.option.Option.TheVariants.{Some, None}
use Rattle.std.specs.declared.result.Result.{Result}
use Rattle.std.specs.declared.result.Result.TheVariants.{Ok, Err}
use Rattle.line_text.specs.Lines.{Line, lines_of}
use Rattle.script_rules.specs.Script.{LineRefusal, opening_of}
use Rattle.headline.specs.Fronts.{IsFront}
use Rattle.script_run.specs.Done.{ended_lines}
use Rattle.script_run.specs.Run.{Tells, EndsWhereTold, refusal_at, refusal_of}
use Rattle.script_run.specs.declared.fault.ScriptFault.{ScriptFault}
use Rattle.script_run.specs.declared.fault.ScriptFault.TheVariants as fault
use Rattle.record_run.specs.Recording.{record_of, written_of_first, written_with_next}

-- a run wrote the record of its script, and this is the first of its lines that breaks a rule
pub record WritesTheRecord (script : List ℕ) (refused : Option LineRefusal) (before now : Option (List ℕ)) : Type 0 where
  pub written : Appends before now (record_of script)
  pub refuses : refusal_of (opening_of script) ≡ refused

-- a run wrote what its script's first lines write, and then a front of what the next line writes, or the script's end where no line is left
pub record WritesFirstLines (script : List ℕ) (before now : Option (List ℕ)) : Type 0 where
  pub done : List Line
  pub rest : List Line
  pub front : List ℕ
  pub are_first : lines_of script ≡ done ++ rest
  pub written : Appends before now (written_of_first done ++ front)
  pub is_front : IsFront (written_of_first done ++ front) (written_with_next done rest)
  pub of_record : IsFront (written_of_first done ++ front) (record_of script)

-- a run wrote exactly what the whole lines write that the source handed out in it
pub record WritesHandedLines (script : List ℕ) (left before now : Option (List ℕ)) : Type 0 where
  pub handed : List ℕ
  pub is_handed : Consumes (Some script) left handed
  pub written : Appends before now (written_of_first (ended_lines (lines_of handed)))
  pub of_record : IsFront (written_of_first (ended_lines (lines_of handed))) (record_of script)

-- a run that was done up to the script's end, or up to the first line that breaks a rule, wrote the record of the script's size, its rows
-- and the journal of the steps before that, and nothing where it is the first line; it ends with Ok only where no byte is left. After a
-- failed read what the whole lines write stands there that were handed out, and after a failed write, or want of memory, what the lines done
-- write and a front of what the next line, or the script's end, writes; each of these is a front of the record
abbrev pub RecordsScript : Result (Unit {0}) ScriptFault → (left rest told telling : Option (List ℕ)) → Type 0
RecordsScript (Ok x) left rest told telling = Tells left (λ script. WritesTheRecord script None told telling) × EndsWhereTold left rest
RecordsScript (Err (fault.Line k rule)) left rest told telling = Tells left (λ script. WritesTheRecord script (refusal_at k rule) told telling)
RecordsScript (Err fault.ReadFault) left rest told telling = Tells left (λ script. WritesHandedLines script rest told telling)
RecordsScript (Err fault.WriteFault) left rest told telling = Tells left (λ script. WritesFirstLines script told telling)
RecordsScript (Err fault.OutOfMemory) left rest told telling = Tells left (λ script. WritesFirstLines script told telling)
