use Rattle.order_second.proofs.Brushes.{front_is}
use Rattle.order_second.proofs.brush.brush_head.Goals as goal

pub returns : goal.returns
returns c bytes e = rw (c.brush_bytes-size.ensures, c.brush_format-format.ensures) (front_is c.args.depth c.args.entry bytes e)
