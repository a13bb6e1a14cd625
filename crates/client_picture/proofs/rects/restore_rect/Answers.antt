use Rattle.std.proofs.Common.{ℕ, sym, ◌∙◌, arith}
use Rattle.std.specs.Prelude.{None, pos}
use Rattle.std.proofs.lemmas.Int.{ints}
use Rattle.px_core.specs.Picture.{rows_of}
use Rattle.px_core.specs.Rectangle.{boxed, in_clip}
use Rattle.px_core.proofs.Pictures.{item-get_or}
use Rattle.draw_ops.specs.Formulas.{replaced, shifted}
use Rattle.client_picture.specs.Parts.{in_part}
use Rattle.client_picture.specs.Sources.{pixel_from}
use Rattle.client_picture.proofs.Paintings.{over_rect_is, unseen}
use Rattle.client_picture.proofs.Shifts.{IsOn, is_on, covers_is, shifted_is}
use Rattle.client_picture.proofs.rects.restore_rect.Goals as goal

whole : (w h : ℕ) → IsOn w h (boxed (pos 0) (pos 0) w h)
whole w h = record { left = omega (arith, ints); right = omega (arith, ints); above = omega (arith, ints); below = omega (arith, ints) }

pub paste_part-requires-clause-source : goal.paste_part-requires-clause-source
paste_part-requires-clause-source c = let r = c.args.rect in let on = is_on c.args.size r c.requires.inside in let small = c.requires.canvas.small in
    covers_is r.w r.h r (pos 0) (pos 0) c.in-Some.part c.corner_of-from.result c.corner_of-from.ensures (whole r.w r.h) c.in-Some.ensures.within _ c.requires.whole (omega (arith, ints, on.left, on.right, small.wide)) (omega (arith, ints, on.above, on.below, small.high))

pub returns-in-Some : goal.returns-in-Some
returns-in-Some c = let size = c.args.size in let r = c.args.rect in let p = c.in-Some.part in let from = c.corner_of-from.result in let saved = c.args.saved.now in
    over_rect_is size (in_clip c.args.bounds) r (replaced (shifted (rows_of r.w r.h saved) None r (pos 0) (pos 0))) c.args.pixels.now c.requires.canvas.sized
    (in_part p) (pixel_from saved r.w from p) c.paste_part.new.pixels c.paste_part.ensures (λ x y left above. c.in-Some.ensures.pixels x y left above)
    (λ x y left above h. sym (item-get_or saved _ None) ∙ sym (shifted_is r.w r.h r (pos 0) (pos 0) p from c.corner_of-from.ensures (whole r.w r.h) c.in-Some.ensures.within saved None x y h))

pub returns-in-None : goal.returns-in-None
returns-in-None c = let r = c.args.rect in
    unseen c.args.size (in_clip c.args.bounds) r (replaced (shifted (rows_of r.w r.h c.args.saved.now) None r (pos 0) (pos 0))) c.args.pixels.now c.requires.canvas.sized
    (λ x y left above. c.in-None.ensures.pixels x y left above)
