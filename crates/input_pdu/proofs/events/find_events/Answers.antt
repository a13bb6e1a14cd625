use Rattle.std.proofs.Common.{rules, arith}
use Rattle.wire_num.specs.Cursor.{rest}
use Rattle.input_pdu.proofs.OneByOne.{events_there}
use Rattle.input_pdu.proofs.events.find_events.Goals as goal

pub returns-then-from-left : goal.returns-then-from-left
returns-then-from-left c = (
  c.in_ok-count.ensures.0,
  events_there c.in_ok-count.count (rest c.read_count.new.cursor) (omega (arith, c.if-from-left.true, c.from.ensures, c.left.ensures)),
)

pub returns : goal.returns
returns c = search rules
