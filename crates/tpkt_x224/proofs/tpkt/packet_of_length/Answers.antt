use Rattle.std.proofs.Common.{rules}
use Rattle.tpkt_x224.proofs.tpkt.packet_of_length.Goals as goal

pub returns-then-carried-length : goal.returns-then-carried-length
returns-then-carried-length c = search rules

pub returns-else-carried-length : goal.returns-else-carried-length
returns-else-carried-length c = search rules
