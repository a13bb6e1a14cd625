use Rattle.std.proofs.Common.{rules}
use Rattle.draw_ops.proofs.image.Image.new.Goals as goal

pub returns : goal.returns
returns c = search rules
