use Rattle.std.proofs.Common.{rules}
use Rattle.tpkt_x224.proofs.data.data_header.Goals as goal

pub returns-then-packet-lt-HEADER-clause-place : goal.returns-then-packet-lt-HEADER-clause-place
returns-then-packet-lt-HEADER-clause-place c = search rules
