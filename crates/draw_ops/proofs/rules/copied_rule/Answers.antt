use Rattle.std.proofs.Common.{rules}
use Rattle.draw_ops.proofs.rules.copied_rule.Goals as goal

pub returns : goal.returns
returns c = search rules
