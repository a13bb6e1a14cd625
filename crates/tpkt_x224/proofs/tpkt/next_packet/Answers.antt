use Rattle.std.proofs.Common.{rules}
use Rattle.tpkt_x224.proofs.tpkt.next_packet.Goals as goal

pub returns-in-3 : goal.returns-in-3
returns-in-3 c = search rules
