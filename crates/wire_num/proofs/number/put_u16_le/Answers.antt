use Rattle.std.proofs.Common.{rules}
use Rattle.wire_num.proofs.number.put_u16_le.Goals as goal

pub returns-clause-ok : goal.returns-clause-ok
returns-clause-ok c = search rules
