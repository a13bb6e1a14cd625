use Rattle.order_means.proofs.PacketPieces.{share_cut, front_cut}
use Rattle.order_means.proofs.piece_laws.packets_are_pieces.Goals as goal

pub returns : goal.returns
returns c = record { slow = share_cut; front = front_cut }
