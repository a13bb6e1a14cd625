use Rattle.std.proofs.Common.{◌≡◌, length}
use Rattle.std.specs.Option.{option_map}
use Rattle.script_lines.specs.Reading.{run_of}
use Rattle.script_lines.proofs.Runs.{run_behind}
use Rattle.script_lines.proofs.text.last_run.Given as goal

-- the glyphs so far, and the run that is left, are the run of all words
abbrev pub invariant-loop-word : goal.invariant-loop-word
invariant-loop-word l = option_map (run_behind l.pairs.items) (run_of l.words) ≡ run_of l.fn.words

abbrev pub decreases-loop-word : goal.decreases-loop-word
decreases-loop-word l = length l.words
