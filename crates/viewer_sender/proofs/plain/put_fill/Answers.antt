use Rattle.rle_enc.proofs.Pending.{on_ok_as}
use Rattle.order_fields.specs.NamedDrawing.NamedDrawing.{Opaque}
use Rattle.viewer_sender.proofs.plain.put_fill.Goals as goal

pub returns : goal.returns
returns c = on_ok_as _ _ c.put_drawn.result c.put_drawn.ensures (λ writes. writes (Opaque c.args.r c.args.color) c.fill_order-order.ensures)
