use Rattle.std.proofs.Common.{rules}
use Rattle.order_prim.proofs.cached.pat_blt.Goals as goal

pub returns : goal.returns
returns c = search rules
