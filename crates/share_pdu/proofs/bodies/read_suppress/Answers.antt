use Rattle.std.proofs.Common.{rules}
use Rattle.share_pdu.specs.Bodies.{suppress_body}
use Rattle.wire_num.specs.FieldValue.{passing_at}
use Rattle.share_pdu.proofs.bodies.read_suppress.Goals as goal

pub returns : goal.returns
unfolding suppress_body passing_at
returns c = search rules
