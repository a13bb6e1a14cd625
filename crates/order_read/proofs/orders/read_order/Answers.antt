use Rattle.order_read.proofs.StreamsRead.{order_drawn}
use Rattle.order_read.proofs.orders.read_order.Goals as goal

pub returns-then-control-eq-TS_STANDARD : goal.returns-then-control-eq-TS_STANDARD
returns-then-control-eq-TS_STANDARD c =
    order_drawn c.args.depth c.read_primary.result c.in_ok-control.control c.args.regs.now c.read_primary.new.regs c.args.cursor.now c.read_byte.new.cursor c.read_primary.new.cursor c.args.out.now.items c.read_primary.new.out.items c.in_ok-control.ensures.0 c.in_ok-control.ensures.1 c.if-control-eq-TS_STANDARD.true c.read_primary.ensures
