use Rattle.script_lines.proofs.Ranges.{found_in_range}
use Rattle.script_lines.proofs.step.read_step.Goals as goal

pub returns-in-Some-clause-range : goal.returns-in-Some-clause-range
returns-in-Some-clause-range c = found_in_range c.in-Some.keyword c.args.words.now c.read_rest.result c.read_rest.ensures
