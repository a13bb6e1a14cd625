-- What is written of a script's lines as its capture.
use Rattle.std.specs.Prelude.{ℕ, List, [], ◌∷◌, ◌++◌}
use Rattle.px_core.specs.declared.surface.Size.{Size}
use Rattle.line_text.specs.Lines.{Line}
use Rattle.frame_rules.specs.Encoder.{Encoder}
use Rattle.script_rules.specs.Script.{ScriptReading, Script, script_from, script_after, opening_of_lines}
use Rattle.script_rules.specs.Capture.{broken_line, last_line}
use Rattle.script_rules.specs.CaptureText.{Run, lines_from, line_in_run, capture_of_script, encoder_frames}
use Rattle.script_run.specs.Done.{capture_of_lines, text_of_first}
use Rattle.script_run.specs.Run.{refusal_of}
use Rattle.script_run.specs.Writing.{ByLines, Writing}

-- of a whole script
abbrev pub of_script : ByLines
of_script = record { writes = capture_of_lines; so_far = text_of_first; refuses = λ lines. refusal_of (opening_of_lines lines) }

abbrev pub text_after : Size → ℕ → List Line → List ℕ
text_after size at lines = capture_of_script encoder_frames (script_after at size lines)

-- behind a size it isn't known who joins, as long as no line follows
abbrev pub so_far_after : Size → ℕ → List Line → List ℕ
so_far_after size at [] = []
so_far_after size at (line ∷ lines) = text_after size at (line ∷ lines)

-- of what follows the first line, which ends at this place
abbrev pub of_rest : Size → ℕ → ByLines
of_rest size at = record { writes = text_after size at; so_far = so_far_after size at; refuses = λ lines. (script_after at size lines).refusal }

-- what a script writes from a run on
abbrev pub text_from : Run Encoder → Script → List ℕ
text_from run script = lines_from encoder_frames script.head run script.asked ++ last_line script.refusal

-- of the lines from the k-th on
abbrev pub of_lines : ℕ → ℕ → ScriptReading → Run Encoder → ByLines
of_lines k at r run = record {
  writes = λ lines. text_from run (script_from k at r lines);
  so_far = λ lines. text_from run (script_from k at r lines);
  refuses = λ lines. (script_from k at r lines).refusal;
}

-- a step writes its line, a line that breaks a rule its refusal, and the end nothing
abbrev pub captures : Writing
captures = record {
  step = λ r run a. line_in_run encoder_frames r.head run a;
  broken = λ k r rule. broken_line k rule;
  end = λ r. [];
  first = λ rule. broken_line 1 rule;
  script = of_script;
  rest = of_rest;
  from = of_lines;
}
