use Rattle.std.proofs.Common.{rules}
use Rattle.tpkt_x224.proofs.confirm.write_confirm.Goals as goal

pub returns-in_ok-extend_from_slice-in-None-clause-ok : goal.returns-in_ok-extend_from_slice-in-None-clause-ok
returns-in_ok-extend_from_slice-in-None-clause-ok c = search rules
