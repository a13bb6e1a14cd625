use Rattle.order_fields.proofs.OrderBack.{order_back}
use Rattle.order_fields.proofs.laws.written_order_is_read_back.Goals as goal

pub returns : goal.returns
returns c = order_back
