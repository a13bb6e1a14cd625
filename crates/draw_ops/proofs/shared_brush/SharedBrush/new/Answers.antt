use Rattle.std.proofs.Common.{rules}
use Rattle.draw_ops.proofs.shared_brush.SharedBrush.new.Goals as goal

pub returns : goal.returns
returns c = search rules
