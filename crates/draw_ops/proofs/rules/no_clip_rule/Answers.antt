use Rattle.std.proofs.Common.{rules}
use Rattle.draw_ops.proofs.rules.no_clip_rule.Goals as goal

pub returns-in-Some : goal.returns-in-Some
returns-in-Some c = search rules
