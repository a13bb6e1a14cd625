use Rattle.std.proofs.Common.{rules}
use Rattle.order_fields.proofs.bounds.far_edge.Goals as goal

pub returns : goal.returns
returns c = search rules
