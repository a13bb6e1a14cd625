use Rattle.std.proofs.Common.{rules}
use Rattle.wire_num.proofs.length.put_per_len.Goals as goal

pub returns-in_ok-extend_from_slice-clause-ok : goal.returns-in_ok-extend_from_slice-clause-ok
returns-in_ok-extend_from_slice-clause-ok c = search rules
