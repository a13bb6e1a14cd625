use Rattle.order_means.proofs.KindRead.{indication_is}
use Rattle.order_means.proofs.PointerFound.{written_back, update_refused}
use Rattle.order_means.proofs.piece_laws.pointer_packets_are_told_by_their_headers.Goals as goal

pub returns : goal.returns
returns c = record { fields = indication_is; written = written_back; update = update_refused }
