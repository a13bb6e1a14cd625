use Rattle.std.proofs.Common.{rules}
use Rattle.order_prim.proofs.saved.last_place.Goals as goal

pub returns : goal.returns
returns c = search rules
