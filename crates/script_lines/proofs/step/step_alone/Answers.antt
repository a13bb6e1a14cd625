use Rattle.std.proofs.Common.{rules}
use Rattle.script_lines.proofs.step.step_alone.Goals as goal

pub returns-in-Suppress : goal.returns-in-Suppress
returns-in-Suppress c = search rules
