use Rattle.std.proofs.Common.{◌∙◌, ap, sym, Some}
use Rattle.rle_enc.proofs.Pending.{on_ok_as}
use Rattle.caps_sets.specs.declared.confirmed.Confirmed.{Confirmed}
use Rattle.caps_sets.specs.Confirmed.{depth_of}
use Rattle.order_fields.specs.NamedDrawing.{drawing_fields}
use Rattle.order_fields.specs.NamedDrawing.NamedDrawing.{Pat}
use Rattle.frame_rules.specs.FrameOrders.{brush_use, bounds_of}
use Rattle.frame_rules.specs.FrameOrders.SentOrder.{Drawn}
use Rattle.viewer_sender.proofs.UseSteps.{drawn_after}
use Rattle.viewer_sender.proofs.cached.put_pat.Goals as goal

pub returns : goal.returns
returns c =
    let a = c.args.writer.now in
    let r = c.args.r in
    let fields = c.pat_order-order.ensures ∙ ap (λ (k : Confirmed). drawing_fields (depth_of k) r (Pat r c.args.rop c.in_ok-entry.entry)) (sym c.in_ok-entry.ensures.orders.0) in
    on_ok_as _ _ c.put_drawn.result c.put_drawn.ensures (λ writes.
    drawn_after a c.use_brush.new.writer c.put_drawn.new.writer (λ uses. brush_use a.confirmed uses (Some c.args.brush.now)) (λ entry. Drawn r (Pat r c.args.rop entry) (bounds_of r c.args.clip)) c.in_ok-entry.entry
    c.in_ok-entry.ensures.orders (writes (Pat r c.args.rop c.in_ok-entry.entry) fields) c.in_ok-entry.ensures.index)
