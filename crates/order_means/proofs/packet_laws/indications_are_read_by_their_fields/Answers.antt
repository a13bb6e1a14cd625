use Rattle.order_means.proofs.Indication.{indication_is}
use Rattle.order_means.proofs.packet_laws.indications_are_read_by_their_fields.Goals as goal

pub returns : goal.returns
returns c = indication_is
