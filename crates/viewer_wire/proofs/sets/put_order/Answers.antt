use Rattle.viewer_wire.specs.Writes.{order_start, order_end}
use Rattle.viewer_wire.proofs.Written.{before}
use Rattle.viewer_wire.proofs.sets.put_order.Goals as goal

pub returns : goal.returns
returns c = before _ (order_start c.args.c.now) (order_end c.args.c.now) _ _ c.in_ok-put_order_start.ensures c.in_ok-put_order_end.ensures
