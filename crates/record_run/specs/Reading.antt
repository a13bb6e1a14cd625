-- What is written of the lines of a script as its record.
use Rattle.std.specs.Prelude.{ℕ, ◌∷◌, List, []}
use Rattle.px_core.specs.declared.surface.Size.{Size}
use Rattle.line_text.specs.Lines.{Line}
use Rattle.frame_rules.specs.Encoder.{Encoder}
use Rattle.script_rules.specs.Script.{ScriptReading, script_from, script_after, opening_of_lines}
use Rattle.script_rules.specs.CaptureText.{Run}
use Rattle.script_run.specs.Run.{refusal_of}
use Rattle.script_run.specs.Writing.{ByLines, Writing}
use Rattle.record_run.specs.Recording.{record_of_script, record_of_lines, written_of_script, written_of_first, text_from, written_from, head_text, step_text}

-- of a whole script
abbrev pub of_script : ByLines
of_script = record { writes = record_of_lines; so_far = written_of_first; refuses = λ lines. refusal_of (opening_of_lines lines) }

-- behind a size it isn't known who joins, as long as no line follows
abbrev pub so_far_after : Size → ℕ → List Line → List ℕ
so_far_after size at [] = []
so_far_after size at (line ∷ lines) = written_of_script (script_after at size (line ∷ lines))

-- of what follows the first line, which ends at this place
abbrev pub of_rest : Size → ℕ → ByLines
of_rest size at = record {
  writes = λ lines. record_of_script (script_after at size lines);
  so_far = so_far_after size at;
  refuses = λ lines. (script_after at size lines).refusal;
}

-- of the lines from the k-th on, whatever is sent of them
abbrev pub of_lines : ℕ → ℕ → ScriptReading → Run Encoder → ByLines
of_lines k at r run = record {
  writes = λ lines. text_from r (script_from k at r lines);
  so_far = λ lines. written_from r (script_from k at r lines);
  refuses = λ lines. (script_from k at r lines).refusal;
}

-- a step writes its entry, and the first one the head, too; a line that breaks a rule, and the end, the head where no step has; a first line
-- that breaks a rule nothing
abbrev pub records : Writing
records = record {
  step = λ r run a. step_text r a.step;
  broken = λ k r rule. head_text r;
  end = head_text;
  first = λ rule. [];
  script = of_script;
  rest = of_rest;
  from = of_lines;
}
