use Rattle.order_means.proofs.Packet.{update_cut, fast_packet_cut}
use Rattle.order_means.proofs.laws.update_is_read_from_its_packet.Goals as goal

pub returns : goal.returns
returns c = record { slow = update_cut; fast = fast_packet_cut }
