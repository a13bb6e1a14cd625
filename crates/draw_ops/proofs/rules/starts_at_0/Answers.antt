use Rattle.std.proofs.Common.{rules}
use Rattle.draw_ops.proofs.rules.starts_at_0.Goals as goal

pub returns-in-None : goal.returns-in-None
returns-in-None c = search rules
