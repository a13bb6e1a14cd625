use Rattle.order_means.proofs.Orders.{order_then}
use Rattle.order_means.proofs.laws.order_is_read_before_others.Goals as goal

pub returns : goal.returns
returns c = order_then
