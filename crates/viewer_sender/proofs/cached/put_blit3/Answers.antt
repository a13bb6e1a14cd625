use Rattle.std.proofs.Common.{w32}
use Rattle.std.proofs.lemmas.Int.{to_z-of_z}
use Rattle.viewer_sender.proofs.Sources.{mem3_source}
use Rattle.std.proofs.Common.{◌++◌, ◌∷◌, [], ◌∙◌, ap, sym, arith, Some}
use Rattle.rle_enc.proofs.Pending.{on_ok_as}
use Rattle.caps_sets.specs.declared.confirmed.Confirmed.{Confirmed}
use Rattle.caps_sets.specs.Confirmed.{depth_of}
use Rattle.order_fields.specs.NamedDrawing.{drawing_fields}
use Rattle.order_fields.specs.NamedDrawing.NamedDrawing.{Mem3}
use Rattle.frame_rules.specs.FrameOrders.{Uses, Sending, image_use, brush_use, bounds_of, sending}
use Rattle.frame_rules.specs.FrameOrders.SentOrder.{Drawn}
use Rattle.viewer_sender.specs.Writes.{used}
use Rattle.viewer_sender.proofs.UseSteps.{drawn_after, writes_then, writes_as}
use Rattle.viewer_sender.proofs.cached.put_blit3.Goals as goal

pub put_drawn-requires-clause-bounds : goal.put_drawn-requires-clause-bounds
put_drawn-requires-clause-bounds c = (c.requires.fits 0 0 0 (omega arith) (omega arith) (omega arith)).bounds

pub returns : goal.returns
returns c =
    let a = c.args.writer.now in
    let b = c.use_image.new.writer in
    let d = c.put_drawn.new.writer in
    let r = c.args.r in
    let k = c.args.cache in
    let image = Some c.args.image.now in
    let brush = Some c.args.brush.now in
    let index = c.in_ok-index.index in
    let as_before = mem3_source (depth_of a.confirmed) c.mem3_order-order.result r _ _ c.args.sx c.args.sy (to_z-of_z w32 c.args.sx c.ranges.sx) (to_z-of_z w32 c.args.sy c.ranges.sy) k index
    c.args.rop c.in_ok-entry.entry c.mem3_order-order.ensures in
    let fields = as_before ∙ ap (λ (k' : Confirmed). drawing_fields (depth_of k') r (Mem3 k index r c.args.rop c.args.sx c.args.sy c.in_ok-entry.entry))
    (sym (c.in_ok-entry.ensures.orders.0 ∙ c.in_ok-index.ensures.orders.0)) in
    on_ok_as _ _ c.put_drawn.result c.put_drawn.ensures (λ writes.
    let f : Uses → Sending = λ uses. used (image_use a.confirmed uses k image) in
    let g : Uses → Sending = λ uses. sending ((brush_use b.confirmed uses brush).orders ++ Drawn r (Mem3 k index r c.args.rop c.args.sx c.args.sy (brush_use b.confirmed uses brush).index) (bounds_of r c.args.clip) ∷ []) (brush_use b.confirmed uses brush).uses in
    let second = drawn_after b c.use_brush.new.writer d (λ uses. brush_use b.confirmed uses brush) (λ entry. Drawn r (Mem3 k index r c.args.rop c.args.sx c.args.sy entry) (bounds_of r c.args.clip)) c.in_ok-entry.entry
    c.in_ok-entry.ensures.orders (writes (Mem3 k index r c.args.rop c.args.sx c.args.sy c.in_ok-entry.entry) fields) c.in_ok-entry.ensures.index in
    writes_as a d _ _ (λ uses stands.
    ap (λ conf. sending ((image_use a.confirmed uses k image).orders ++ ((brush_use conf (image_use a.confirmed uses k image).uses brush).orders
    ++ Drawn r (Mem3 k index r c.args.rop c.args.sx c.args.sy (brush_use conf (image_use a.confirmed uses k image).uses brush).index) (bounds_of r c.args.clip) ∷ []))
    (brush_use conf (image_use a.confirmed uses k image).uses brush).uses) c.in_ok-index.ensures.orders.0
    ∙ ap (λ n. sending ((image_use a.confirmed uses k image).orders ++ ((brush_use a.confirmed (image_use a.confirmed uses k image).uses brush).orders
    ++ Drawn r (Mem3 k n r c.args.rop c.args.sx c.args.sy (brush_use a.confirmed (image_use a.confirmed uses k image).uses brush).index) (bounds_of r c.args.clip) ∷ []))
    (brush_use a.confirmed (image_use a.confirmed uses k image).uses brush).uses) (c.in_ok-index.ensures.index uses stands))
    (writes_then a b d f g c.in_ok-index.ensures.orders second))
