use Rattle.std.proofs.Common.{◌≡◌, ap, refl, sym, subst, arith, w32, to_z, of_z}
use Rattle.std.proofs.lemmas.Int.{to_z-of_z}
use Rattle.std.specs.Prelude.{ℤ}
use Rattle.rle_enc.proofs.Pending.{on_ok_as}
use Rattle.draw_ops.specs.declared.shape.Shape.TheVariants.{Pat, Copy, Blit, Blit3, Text}
use Rattle.frame_rules.specs.Frame.{Sent}
use Rattle.frame_rules.specs.FrameOrders.{or_0, sending_by}
use Rattle.frame_plan.specs.Orders.{cache_for, sent_as}
use Rattle.viewer_sender.specs.Writes.{Writes}
use Rattle.viewer_sender.specs.Goes.{ImageGoes, BrushGoes}
use Rattle.viewer_sender.proofs.CachesServe.{image_number_below, run_number_below}
use Rattle.viewer_sender.proofs.CachedGoes.{taken_by, brush_taken, image_taken, both_taken, run_taken, pat_as, blit_as, blit3_as}
use Rattle.viewer_sender.proofs.Loops.{arm}
use Rattle.viewer_sender.proofs.drawing.put_drawing.Goals as goal

pub put_pat-requires-clause-whole : goal.put_pat-requires-clause-whole
put_pat-requires-clause-whole c =
    let p = c.args.planned.now.pending in
    let is = taken_by c.args.writer.now.confirmed p c.drawing-drawing.result.now _ c.args.planned.now.cached _ c.requires.chosen c.drawing-drawing.ensures c.in-Pat-Brush.is-0 c.in-Pat-Brush.is-1 in
    (subst BrushGoes (brush_taken (cache_for c.args.writer.now.confirmed p (Pat c.in-Pat-Brush.rect c.in-Pat-Brush.rop c.in-Pat-Brush.brush-0)) p.image p.brush _ is) c.requires.goes.brush).0

pub put_pat-requires-clause-colors : goal.put_pat-requires-clause-colors
put_pat-requires-clause-colors c =
    let p = c.args.planned.now.pending in
    let is = taken_by c.args.writer.now.confirmed p c.drawing-drawing.result.now _ c.args.planned.now.cached _ c.requires.chosen c.drawing-drawing.ensures c.in-Pat-Brush.is-0 c.in-Pat-Brush.is-1 in
    (subst BrushGoes (brush_taken (cache_for c.args.writer.now.confirmed p (Pat c.in-Pat-Brush.rect c.in-Pat-Brush.rop c.in-Pat-Brush.brush-0)) p.image p.brush _ is) c.requires.goes.brush).1

pub put_blit-requires-clause-few : goal.put_blit-requires-clause-few
put_blit-requires-clause-few c =
    let p = c.args.planned.now.pending in
    let is = taken_by c.args.writer.now.confirmed p c.drawing-drawing.result.now _ c.args.planned.now.cached _ c.requires.chosen c.drawing-drawing.ensures c.in-Blit-Image.is-0 c.in-Blit-Image.is-1 in
    image_number_below c.args.writer.now.confirmed p.image _ c.requires.all.bitmaps (sym (ap or_0 (image_taken _ p.image p.brush _ _ is).0))

pub put_blit-requires-clause-sound : goal.put_blit-requires-clause-sound
put_blit-requires-clause-sound c =
    let p = c.args.planned.now.pending in
    let is = taken_by c.args.writer.now.confirmed p c.drawing-drawing.result.now _ c.args.planned.now.cached _ c.requires.chosen c.drawing-drawing.ensures c.in-Blit-Image.is-0 c.in-Blit-Image.is-1 in
    subst ImageGoes (image_taken _ p.image p.brush _ _ is).1 c.requires.goes.image

pub put_blit3-requires-clause-few : goal.put_blit3-requires-clause-few
put_blit3-requires-clause-few c =
    let p = c.args.planned.now.pending in
    let is = taken_by c.args.writer.now.confirmed p c.drawing-drawing.result.now _ c.args.planned.now.cached _ c.requires.chosen c.drawing-drawing.ensures c.in-Blit3-ImageAndBrush.is-0
    c.in-Blit3-ImageAndBrush.is-1 in
    image_number_below c.args.writer.now.confirmed p.image _ c.requires.all.bitmaps (sym (ap or_0 (both_taken _ p.image p.brush _ _ _ is).0))

pub put_blit3-requires-clause-sound : goal.put_blit3-requires-clause-sound
put_blit3-requires-clause-sound c =
    let p = c.args.planned.now.pending in
    let is = taken_by c.args.writer.now.confirmed p c.drawing-drawing.result.now _ c.args.planned.now.cached _ c.requires.chosen c.drawing-drawing.ensures c.in-Blit3-ImageAndBrush.is-0
    c.in-Blit3-ImageAndBrush.is-1 in
    subst ImageGoes (both_taken _ p.image p.brush _ _ _ is).1.0 c.requires.goes.image

pub put_blit3-requires-clause-whole : goal.put_blit3-requires-clause-whole
put_blit3-requires-clause-whole c =
    let p = c.args.planned.now.pending in
    let is = taken_by c.args.writer.now.confirmed p c.drawing-drawing.result.now _ c.args.planned.now.cached _ c.requires.chosen c.drawing-drawing.ensures c.in-Blit3-ImageAndBrush.is-0
    c.in-Blit3-ImageAndBrush.is-1 in
    (subst BrushGoes (both_taken _ p.image p.brush _ _ _ is).1.1 c.requires.goes.brush).0

pub put_blit3-requires-clause-colors : goal.put_blit3-requires-clause-colors
put_blit3-requires-clause-colors c =
    let p = c.args.planned.now.pending in
    let is = taken_by c.args.writer.now.confirmed p c.drawing-drawing.result.now _ c.args.planned.now.cached _ c.requires.chosen c.drawing-drawing.ensures c.in-Blit3-ImageAndBrush.is-0
    c.in-Blit3-ImageAndBrush.is-1 in
    (subst BrushGoes (both_taken _ p.image p.brush _ _ _ is).1.1 c.requires.goes.brush).1

pub put_text-requires-clause-chosen : goal.put_text-requires-clause-chosen
put_text-requires-clause-chosen c =
    let p = c.args.planned.now.pending in
    let is = taken_by c.args.writer.now.confirmed p c.drawing-drawing.result.now _ c.args.planned.now.cached _ c.requires.chosen c.drawing-drawing.ensures c.in-Text-Glyphs.is-0 c.in-Text-Glyphs.is-1 in
    sym (ap or_0 (run_taken _ p.image p.brush _ is))

pub put_text-requires-clause-below : goal.put_text-requires-clause-below
put_text-requires-clause-below c =
    let p = c.args.planned.now.pending in
    let is = taken_by c.args.writer.now.confirmed p c.drawing-drawing.result.now _ c.args.planned.now.cached _ c.requires.chosen c.drawing-drawing.ensures c.in-Text-Glyphs.is-0 c.in-Text-Glyphs.is-1 in
    run_number_below c.args.writer.now.confirmed p.glyphs _ c.requires.all.glyphs (sym (ap or_0 (run_taken _ p.image p.brush _ is)))

pub returns-in-Pat-Brush : goal.returns-in-Pat-Brush
returns-in-Pat-Brush c =
    let a = c.args.writer.now in
    let b = c.put_pat.new.writer in
    let p = c.args.planned.now.pending in
    let d = c.drawing-drawing.result.now in
    let s : Sent = sent_as c.args.planned.now in
    let r = c.in-Pat-Brush.rect in
    let k = c.in-Pat-Brush.rop in
    let is = taken_by a.confirmed p d _ c.args.planned.now.cached _ c.requires.chosen c.drawing-drawing.ensures c.in-Pat-Brush.is-0 c.in-Pat-Brush.is-1 in
    on_ok_as _ _ c.put_pat.result c.put_pat.ensures (λ h.
    arm a b s p d (Pat r k _) refl c.drawing-drawing.ensures c.in-Pat-Brush.is-0 (pat_as a b s d.clip r k 0 _ (brush_taken (cache_for c.args.writer.now.confirmed p (Pat c.in-Pat-Brush.rect c.in-Pat-Brush.rop c.in-Pat-Brush.brush-0)) p.image p.brush _ is) h))

pub returns-in-Copy-default : goal.returns-in-Copy-default
returns-in-Copy-default c =
    let a = c.args.writer.now in
    let b = c.put_copy.new.writer in
    let p = c.args.planned.now.pending in
    let d = c.drawing-drawing.result.now in
    let s : Sent = sent_as c.args.planned.now in
    let r = c.in-Copy-default.rect in
    let k = c.in-Copy-default.rop in
    let x : to_z w32 (of_z w32 c.in-Copy-default.sx) ≡ c.in-Copy-default.sx = grind (arith, to_z-of_z) in
    let y : to_z w32 (of_z w32 c.in-Copy-default.sy) ≡ c.in-Copy-default.sy = grind (arith, to_z-of_z) in
    on_ok_as _ _ c.put_copy.result c.put_copy.ensures (λ h.
    arm a b s p d (Copy r k c.in-Copy-default.sx c.in-Copy-default.sy) refl c.drawing-drawing.ensures c.in-Copy-default.is-0
    (subst (λ (z : ℤ). Writes a b (λ uses. sending_by a.confirmed uses (record { pending = p; position = s.position }) d.clip (Copy r k c.in-Copy-default.sx z))) y
    (subst (λ (z : ℤ). Writes a b (λ uses. sending_by a.confirmed uses (record { pending = p; position = s.position }) d.clip (Copy r k z (to_z w32 (of_z w32 c.in-Copy-default.sy))))) x h)))

pub returns-in-Blit-Image : goal.returns-in-Blit-Image
returns-in-Blit-Image c =
    let a = c.args.writer.now in
    let b = c.put_blit.new.writer in
    let p = c.args.planned.now.pending in
    let d = c.drawing-drawing.result.now in
    let s : Sent = sent_as c.args.planned.now in
    let r = c.in-Blit-Image.rect in
    let k = c.in-Blit-Image.rop in
    let x : to_z w32 (of_z w32 c.in-Blit-Image.sx) ≡ c.in-Blit-Image.sx = grind (arith, to_z-of_z) in
    let y : to_z w32 (of_z w32 c.in-Blit-Image.sy) ≡ c.in-Blit-Image.sy = grind (arith, to_z-of_z) in
    let is = taken_by a.confirmed p d _ c.args.planned.now.cached _ c.requires.chosen c.drawing-drawing.ensures c.in-Blit-Image.is-0 c.in-Blit-Image.is-1 in
    let taken = image_taken _ p.image p.brush _ _ is in
    on_ok_as _ _ c.put_blit.result c.put_blit.ensures (λ h.
    arm a b s p d (Blit r k _ c.in-Blit-Image.sx c.in-Blit-Image.sy) refl c.drawing-drawing.ensures c.in-Blit-Image.is-0
    (subst (λ (z : ℤ). Writes a b (λ uses. sending_by a.confirmed uses (record { pending = p; position = s.position }) d.clip (Blit r k 0 c.in-Blit-Image.sx z))) y
    (subst (λ (z : ℤ). Writes a b (λ uses. sending_by a.confirmed uses (record { pending = p; position = s.position }) d.clip (Blit r k 0 z (to_z w32 (of_z w32 c.in-Blit-Image.sy))))) x
    (blit_as a b s d.clip r k _ _ _ _ taken.0 taken.1 0 h))))

pub returns-in-Blit3-ImageAndBrush : goal.returns-in-Blit3-ImageAndBrush
returns-in-Blit3-ImageAndBrush c =
    let a = c.args.writer.now in
    let b = c.put_blit3.new.writer in
    let p = c.args.planned.now.pending in
    let d = c.drawing-drawing.result.now in
    let s : Sent = sent_as c.args.planned.now in
    let r = c.in-Blit3-ImageAndBrush.rect in
    let k = c.in-Blit3-ImageAndBrush.rop in
    let sx = c.in-Blit3-ImageAndBrush.sx in
    let sy = c.in-Blit3-ImageAndBrush.sy in
    let x : to_z w32 (of_z w32 c.in-Blit3-ImageAndBrush.sx) ≡ c.in-Blit3-ImageAndBrush.sx = grind (arith, to_z-of_z) in
    let y : to_z w32 (of_z w32 c.in-Blit3-ImageAndBrush.sy) ≡ c.in-Blit3-ImageAndBrush.sy = grind (arith, to_z-of_z) in
    let is = taken_by a.confirmed p d _ c.args.planned.now.cached _ c.requires.chosen c.drawing-drawing.ensures c.in-Blit3-ImageAndBrush.is-0 c.in-Blit3-ImageAndBrush.is-1 in
    let taken = both_taken _ p.image p.brush _ _ _ is in
    on_ok_as _ _ c.put_blit3.result c.put_blit3.ensures (λ h.
    arm a b s p d (Blit3 r k _ sx sy _) refl c.drawing-drawing.ensures c.in-Blit3-ImageAndBrush.is-0
    (subst (λ (z : ℤ). Writes a b (λ uses. sending_by a.confirmed uses (record { pending = p; position = s.position }) d.clip (Blit3 r k 0 sx z 0))) y
    (subst (λ (z : ℤ). Writes a b (λ uses. sending_by a.confirmed uses (record { pending = p; position = s.position }) d.clip (Blit3 r k 0 z (to_z w32 (of_z w32 sy)) 0))) x
    (blit3_as a b s d.clip r k _ _ _ _ taken.0 taken.1.0 0 0 _ taken.1.1 h))))

pub returns-in-Text-Glyphs : goal.returns-in-Text-Glyphs
returns-in-Text-Glyphs c =
    let a = c.args.writer.now in
    let b = c.put_text.new.writer in
    let p = c.args.planned.now.pending in
    let d = c.drawing-drawing.result.now in
    let s : Sent = sent_as c.args.planned.now in
    let t = c.in-Text-Glyphs.run' in
    let k = c.in-Text-Glyphs.color in
    let x : to_z w32 (of_z w32 c.in-Text-Glyphs.x) ≡ c.in-Text-Glyphs.x = grind (arith, to_z-of_z) in
    let y : to_z w32 (of_z w32 c.in-Text-Glyphs.y) ≡ c.in-Text-Glyphs.y = grind (arith, to_z-of_z) in
    on_ok_as _ _ c.put_text.result c.put_text.ensures (λ h.
    arm a b s p d (Text c.in-Text-Glyphs.x c.in-Text-Glyphs.y k _ t) refl c.drawing-drawing.ensures c.in-Text-Glyphs.is-0
    (subst (λ (z : ℤ). Writes a b (λ uses. sending_by a.confirmed uses (record { pending = p; position = s.position }) d.clip (Text c.in-Text-Glyphs.x z k 0 t))) y
    (subst (λ (z : ℤ). Writes a b (λ uses. sending_by a.confirmed uses (record { pending = p; position = s.position }) d.clip (Text z (to_z w32 (of_z w32 c.in-Text-Glyphs.y)) k 0 t))) x h)))
