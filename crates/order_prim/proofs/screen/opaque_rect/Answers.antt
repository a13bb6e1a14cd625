use Rattle.std.proofs.Common.{rules}
use Rattle.order_prim.proofs.screen.opaque_rect.Goals as goal

pub returns : goal.returns
returns c = search rules
