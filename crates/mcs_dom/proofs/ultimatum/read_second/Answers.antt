use Rattle.std.proofs.Common.{rules}
use Rattle.wire_num.specs.FieldValue.{passing_at}
use Rattle.mcs_dom.proofs.ultimatum.read_second.Goals as goal

pub returns-in-len1-up : goal.returns-in-len1-up
unfolding passing_at
returns-in-len1-up c = search rules
