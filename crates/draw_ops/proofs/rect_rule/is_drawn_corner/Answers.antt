use Rattle.std.proofs.Common.{rules}
use Rattle.draw_ops.proofs.rect_rule.is_drawn_corner.Goals as goal

pub returns-then-at-ge-LEAST_CORNER : goal.returns-then-at-ge-LEAST_CORNER
returns-then-at-ge-LEAST_CORNER c = search rules
