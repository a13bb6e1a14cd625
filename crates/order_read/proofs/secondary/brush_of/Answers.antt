use Rattle.order_read.proofs.PixelBytes.{brush_pixels}
use Rattle.order_read.proofs.secondary.brush_of.Goals as goal

pub turned_over-requires : goal.turned_over-requires
turned_over-requires c =
    let count = brush_pixels c.args.depth _ _ c.requires c.in_ok-pixels.ensures.number in
    rw (c.deref.ensures.value, c.from-side.ensures) count
