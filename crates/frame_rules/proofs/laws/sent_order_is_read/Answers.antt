use Rattle.frame_rules.proofs.OrdersBack.{sent_back}
use Rattle.frame_rules.proofs.laws.sent_order_is_read.Goals as goal

pub returns : goal.returns
returns c = sent_back
