-- What a script's lines come to is its capture.
use Rattle.std.proofs.Common.{◌≡◌, ℕ, List, [], ◌∷◌, ◌++◌, refl, sym, subst, Some, None}
use Rattle.std.specs.Prelude.{Option, Result, Ok, Err}
use Rattle.std.specs.Io.KnownBytes.{Appends}
use Rattle.line_text.specs.Lines.{Line, lines_of}
use Rattle.script_rules.specs.Script.{LineRefusal}
use Rattle.script_rules.specs.CaptureText.{capture_of, encoder_frames}
use Rattle.headline.specs.Fronts.{IsFront}
use Rattle.headline.proofs.Scripts.{capture_sees, capture_front_sees}
use Rattle.script_run.specs.declared.fault.ScriptFault.{ScriptFault}
use Rattle.script_run.specs.declared.fault.ScriptFault.TheVariants as fault
use Rattle.script_run.specs.Done.{capture_of_lines, text_of_first, text_with_next}
use Rattle.script_run.specs.Run.{Tells, refusal_at, WritesTheCapture, IsFrontOfCapture, WritesFirstLines, WritesHandedLines, RunsScript}
use Rattle.script_run.specs.Writing.{with_next}
use Rattle.script_run.specs.Captures.{captures, of_script}
use Rattle.script_run.specs.Reading.{WroteAll, WroteDoneLines, WroteHandedLines, RunsLines}
use Rattle.script_run.proofs.Fronts.{front_of_front}
use Rattle.script_run.proofs.Steady.{script_front, next_front}
use Rattle.script_run.proofs.AllLines.{nothing_run}
use Rattle.script_run.proofs.Captured.{captures_are_written}

front_of_capture : (script text : List ℕ) → IsFront text (capture_of encoder_frames script) → IsFrontOfCapture script text
front_of_capture script text f = record { front = f; shows_journal = capture_front_sees script text f.rest f.joined }

told_capture : (left told telling : Option (List ℕ)) (refused : Option LineRefusal) → Tells left (λ script. WroteAll of_script refused (lines_of script) told telling)
    → Tells left (λ script. WritesTheCapture script refused told telling)
told_capture None told telling refused d = tt
told_capture (Some script) told telling refused d = record {
  text = capture_of encoder_frames script;
  written = d.written;
  is_capture = refl;
  shows_journal = capture_sees script;
  refuses = d.refuses;
}

next_is : (done rest : List Line) → with_next of_script done rest ≡ text_with_next done rest
next_is done [] = refl
next_is done (next ∷ lines) = refl

first_lines : (script : List ℕ) (told telling : Option (List ℕ)) → WroteDoneLines of_script (lines_of script) told telling → WritesFirstLines script told telling
first_lines script told telling d =
    let text = text_of_first d.done ++ d.front in record {
      done = d.done;
      rest = d.rest;
      front = d.front;
      are_first = d.are_first;
      written = d.written;
      is_front = subst (IsFront text) (next_is d.done d.rest) d.is_front;
      is_capture = front_of_capture script text (subst (λ ls. IsFront text (capture_of_lines ls)) (sym d.are_first)
          (front_of_front text (with_next of_script d.done d.rest) (capture_of_lines (d.done ++ d.rest)) d.is_front (next_front captures captures_are_written d.done d.rest)));
    }

told_first : (left told telling : Option (List ℕ)) → Tells left (λ script. WroteDoneLines of_script (lines_of script) told telling)
    → Tells left (λ script. WritesFirstLines script told telling)
told_first None told telling d = tt
told_first (Some script) told telling d = first_lines script told telling d

handed_lines : (script : List ℕ) (rest told telling : Option (List ℕ)) → WroteHandedLines of_script script rest told telling → WritesHandedLines script rest told telling
handed_lines script rest told telling d = record {
  handed = d.handed;
  is_handed = d.is_handed;
  written = subst (λ ls. Appends told telling (text_of_first ls)) (sym d.are_whole) d.written;
  is_capture = subst (λ ls. IsFrontOfCapture script (text_of_first ls)) (sym d.are_whole)
      (front_of_capture script (text_of_first d.lines)
      (subst (λ ls. IsFront (text_of_first d.lines) (capture_of_lines ls)) (sym d.are_first) (script_front captures captures_are_written d.lines d.more)));
}

told_handed : (left rest told telling : Option (List ℕ)) → Tells left (λ script. WroteHandedLines of_script script rest told telling)
    → Tells left (λ script. WritesHandedLines script rest told telling)
told_handed None rest told telling d = tt
told_handed (Some script) rest told telling d = handed_lines script rest told telling d

-- a run that did a script's lines wrote its capture
pub captured : (result : Result (Unit {0}) ScriptFault) (left rest told telling : Option (List ℕ)) → RunsLines result of_script left rest told telling
    → RunsScript result left rest told telling
captured (Ok x) left rest told telling d = (told_capture left told telling None d.0, d.1)
captured (Err (fault.Line line rule)) left rest told telling d = told_capture left told telling (refusal_at line rule) d
captured (Err fault.ReadFault) left rest told telling d = told_handed left rest told telling d
captured (Err fault.WriteFault) left rest told telling d = told_first left told telling d
captured (Err fault.OutOfMemory) left rest told telling d = told_first left told telling d

-- a run that had no memory for a buffer wrote nothing
pub nothing_written : (left told : Option (List ℕ)) → Tells left (λ script. WritesFirstLines script told told)
nothing_written left told = told_first left told told (nothing_run of_script left told refl)
