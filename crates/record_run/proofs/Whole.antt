-- What a script's lines come to is its record.
use Rattle.std.proofs.Common.{◌≡◌, ℕ, List, [], ◌∷◌, ◌++◌, refl, sym, subst, Some, None}
use Rattle.std.specs.Prelude.{Option, Result, Ok, Err}
use Rattle.std.specs.Io.KnownBytes.{Appends}
use Rattle.line_text.specs.Lines.{Line, lines_of}
use Rattle.script_rules.specs.Script.{LineRefusal}
use Rattle.headline.specs.Fronts.{IsFront}
use Rattle.script_run.specs.declared.fault.ScriptFault.{ScriptFault}
use Rattle.script_run.specs.declared.fault.ScriptFault.TheVariants as fault
use Rattle.script_run.specs.Run.{Tells, refusal_at}
use Rattle.script_run.specs.Writing.{with_next}
use Rattle.script_run.specs.Reading.{WroteAll, WroteDoneLines, WroteHandedLines, RunsLines}
use Rattle.script_run.proofs.Fronts.{front_of_front}
use Rattle.script_run.proofs.Steady.{script_front, next_front}
use Rattle.script_run.proofs.AllLines.{nothing_run}
use Rattle.record_run.specs.Recording.{record_of, record_of_lines, written_of_first, written_with_next}
use Rattle.record_run.specs.Reading.{records, of_script}
use Rattle.record_run.specs.Run.{WritesTheRecord, WritesFirstLines, WritesHandedLines, RecordsScript}
use Rattle.record_run.proofs.Recorded.{records_are_written}

told_record : (left told telling : Option (List ℕ)) (refused : Option LineRefusal) → Tells left (λ script. WroteAll of_script refused (lines_of script) told telling)
    → Tells left (λ script. WritesTheRecord script refused told telling)
told_record None told telling refused d = tt
told_record (Some script) told telling refused d = record { written = d.written; refuses = d.refuses }

next_is : (done rest : List Line) → with_next of_script done rest ≡ written_with_next done rest
next_is done [] = refl
next_is done (next ∷ lines) = refl

first_lines : (script : List ℕ) (told telling : Option (List ℕ)) → WroteDoneLines of_script (lines_of script) told telling → WritesFirstLines script told telling
first_lines script told telling d =
    let text = written_of_first d.done ++ d.front in record {
      done = d.done;
      rest = d.rest;
      front = d.front;
      are_first = d.are_first;
      written = d.written;
      is_front = subst (IsFront text) (next_is d.done d.rest) d.is_front;
      of_record = subst (λ ls. IsFront text (record_of_lines ls)) (sym d.are_first)
          (front_of_front text (with_next of_script d.done d.rest) (record_of_lines (d.done ++ d.rest)) d.is_front (next_front records records_are_written d.done d.rest));
    }

told_first : (left told telling : Option (List ℕ)) → Tells left (λ script. WroteDoneLines of_script (lines_of script) told telling)
    → Tells left (λ script. WritesFirstLines script told telling)
told_first None told telling d = tt
told_first (Some script) told telling d = first_lines script told telling d

handed_lines : (script : List ℕ) (rest told telling : Option (List ℕ)) → WroteHandedLines of_script script rest told telling → WritesHandedLines script rest told telling
handed_lines script rest told telling d = record {
  handed = d.handed;
  is_handed = d.is_handed;
  written = subst (λ ls. Appends told telling (written_of_first ls)) (sym d.are_whole) d.written;
  of_record = subst (λ ls. IsFront (written_of_first ls) (record_of script)) (sym d.are_whole)
      (subst (λ ls. IsFront (written_of_first d.lines) (record_of_lines ls)) (sym d.are_first) (script_front records records_are_written d.lines d.more));
}

told_handed : (left rest told telling : Option (List ℕ)) → Tells left (λ script. WroteHandedLines of_script script rest told telling)
    → Tells left (λ script. WritesHandedLines script rest told telling)
told_handed None rest told telling d = tt
told_handed (Some script) rest told telling d = handed_lines script rest told telling d

-- a run that did a script's lines wrote its record
pub recorded : (result : Result (Unit {0}) ScriptFault) (left rest told telling : Option (List ℕ)) → RunsLines result of_script left rest told telling
    → RecordsScript result left rest told telling
recorded (Ok x) left rest told telling d = (told_record left told telling None d.0, d.1)
recorded (Err (fault.Line line rule)) left rest told telling d = told_record left told telling (refusal_at line rule) d
recorded (Err fault.ReadFault) left rest told telling d = told_handed left rest told telling d
recorded (Err fault.WriteFault) left rest told telling d = told_first left told telling d
recorded (Err fault.OutOfMemory) left rest told telling d = told_first left told telling d

-- a run that had no memory for a buffer wrote nothing
pub nothing_written : (left told : Option (List ℕ)) → Tells left (λ script. WritesFirstLines script told told)
nothing_written left told = told_first left told told (nothing_run of_script left told refl)
