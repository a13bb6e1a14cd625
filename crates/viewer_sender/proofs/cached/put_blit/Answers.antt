use Rattle.std.proofs.Common.{w32}
use Rattle.std.proofs.lemmas.Int.{to_z-of_z}
use Rattle.viewer_sender.proofs.Sources.{mem_source}
use Rattle.std.proofs.Common.{arith, Some}
use Rattle.rle_enc.proofs.Pending.{on_ok_as}
use Rattle.px_core.specs.declared.depth.Depth.TheVariants.{Bits24}
use Rattle.order_fields.specs.NamedDrawing.NamedDrawing.{Mem}
use Rattle.frame_rules.specs.FrameOrders.{image_use, bounds_of}
use Rattle.frame_rules.specs.FrameOrders.SentOrder.{Drawn}
use Rattle.viewer_sender.proofs.UseSteps.{drawn_after}
use Rattle.viewer_sender.proofs.cached.put_blit.Goals as goal

pub put_drawn-requires-clause-bounds : goal.put_drawn-requires-clause-bounds
put_drawn-requires-clause-bounds c = (c.requires.fits 0 0 (omega arith) (omega arith)).bounds

pub returns : goal.returns
returns c =
    let a = c.args.writer.now in
    let d = c.put_drawn-2.new.writer in
    let r = c.args.r in
    let k = c.args.cache in
    let image = Some c.args.image.now in
    on_ok_as _ _ c.put_drawn-2.result c.put_drawn-2.ensures (λ writes.
    drawn_after a c.use_image.new.writer d (λ uses. image_use a.confirmed uses k image) (λ index. Drawn r (Mem k index r c.args.rop c.args.sx c.args.sy) (bounds_of r c.args.clip)) c.in_ok-index.index
    c.in_ok-index.ensures.orders (writes (Mem k c.in_ok-index.index r c.args.rop c.args.sx c.args.sy) (mem_source Bits24 c.mem_blt.result r _ _ c.args.sx c.args.sy (to_z-of_z w32 c.args.sx c.ranges.sx) (to_z-of_z w32 c.args.sy c.ranges.sy) k c.in_ok-index.index c.args.rop c.mem_blt.ensures)) c.in_ok-index.ensures.index)
