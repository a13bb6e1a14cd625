use Rattle.frame_rules.proofs.OrdersBack.{orders_back}
use Rattle.frame_rules.proofs.laws.sent_orders_are_read.Goals as goal

pub returns : goal.returns
returns c = orders_back
