use Rattle.std.proofs.Common.{rules}
use Rattle.tpkt_x224.specs.Request.{references}
use Rattle.wire_num.specs.FieldValue.{passing_at}
use Rattle.tpkt_x224.proofs.request.read_references.Goals as goal

pub returns-in_err-at_least : goal.returns-in_err-at_least
unfolding references passing_at
returns-in_err-at_least c = search rules

pub returns-in_err-bytes : goal.returns-in_err-bytes
unfolding references passing_at
returns-in_err-bytes c = search rules

pub returns-in_err-reference : goal.returns-in_err-reference
unfolding references passing_at
returns-in_err-reference c = search rules

pub returns-in_err-bytes-2 : goal.returns-in_err-bytes-2
unfolding references passing_at
returns-in_err-bytes-2 c = search rules

pub returns : goal.returns
unfolding references passing_at
returns c = search rules
