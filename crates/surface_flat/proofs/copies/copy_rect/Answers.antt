use Rattle.std.proofs.Common.{◌≡◌, ◌+◌, ◌-◌, ◌≤◌, ◌<◌, ap, sym, ◌∙◌, arith}
use Rattle.std.specs.Prelude.{pos, ◌+ℤ◌, ◌-ℤ◌}
use Rattle.std.proofs.lemmas.Int.{ints}
use Rattle.std.proofs.lemmas.Bool.Decides.{nat_tests}
use Rattle.px_core.specs.Picture.{pixel_at, pixel_in, rows_of}
use Rattle.px_core.specs.Rectangle.{boxed, in_clip}
use Rattle.px_core.proofs.Pictures.{pixel-rows_of}
use Rattle.rop3_core.specs.Rop3.{ternary_raster}
use Rattle.rop3_core.specs.Palette.{session_colors}
use Rattle.draw_ops.specs.Formulas.{rastered, absent, shifted}
use Rattle.surface_parts.specs.declared.picture_copy.PictureCopy.{PictureCopy}
use Rattle.surface_parts.specs.Parts.{in_part}
use Rattle.surface_parts.specs.Textures.{copied_color}
use Rattle.surface_parts.proofs.Seen.{lies_on}
use Rattle.surface_parts.proofs.Paintings.{over_rect_is, unseen}
use Rattle.surface_flat.proofs.copies.copy_rect.Goals as goal

pub copy_part-requires-clause-from : goal.copy_part-requires-clause-from
copy_part-requires-clause-from c = let on = lies_on c.args.window.size (boxed c.args.sx c.args.sy c.args.rect.w c.args.rect.h) c.requires.inside in
    record {
      columns = omega (arith, ints, on.right, c.source_place.ensures, c.in-Some.ensures.within.right);
      rows = omega (arith, ints, on.below, c.source_place-in-Some.ensures, c.in-Some.ensures.within.below);
    }

pub returns-in-Some : goal.returns-in-Some
returns-in-Some c = let size = c.args.window.size in let old = c.args.pixels.now in let rect = c.args.rect in let p = c.in-Some.part in let sx = c.args.sx in let sy = c.args.sy in
    let on = lies_on size (boxed sx sy rect.w rect.h) c.requires.inside in
    let w = c.in-Some.ensures.within in
    let tx = c.source_place.result in let ty = c.source_place-in-Some.result in
    let copy : PictureCopy = record { rop = c.args.rop; x = tx; y = ty } in
    over_rect_is size (in_clip c.args.window.clip) rect (rastered session_colors c.args.rop (absent session_colors) (shifted (rows_of size.w size.h old) 0 rect sx sy)) old c.requires.canvas.sized
    (in_part p) (copied_color size old p copy) c.copy_part.new.pixels c.copy_part.ensures (λ x y left above. c.in-Some.ensures.pixels x y left above)
    (λ x y left above h.
    let l : p.x ≤ x = grind (arith, nat_tests, h) in
    let r : x < p.x + p.w = grind (arith, nat_tests, h) in
    let a : p.y ≤ y = grind (arith, nat_tests, h) in
    let b : y < p.y + p.h = grind (arith, nat_tests, h) in
    let eu : (pos x -ℤ rect.x) +ℤ sx ≡ pos (c.source_place.result + (x - p.x)) = omega (arith, ints, l, c.source_place.ensures) in
    let ev : (pos y -ℤ rect.y) +ℤ sy ≡ pos (c.source_place-in-Some.result + (y - p.y)) = omega (arith, ints, a, c.source_place-in-Some.ensures) in
    ap (λ s. ternary_raster c.args.rop 0 s (pixel_at size old 0 x y))
    (sym (pixel-rows_of size.w size.h old (tx + (x - p.x)) (ty + (y - p.y)) 0 (omega (arith, ints, l, r, on.right, c.source_place.ensures, w.right)) (omega (arith, ints, a, b, on.below, c.source_place-in-Some.ensures, w.below)))
    ∙ ap (λ z. pixel_in (rows_of size.w size.h old) 0 z (pos (ty + (y - p.y)))) (sym eu)
    ∙ ap (λ z. pixel_in (rows_of size.w size.h old) 0 ((pos x -ℤ rect.x) +ℤ sx) z) (sym ev)))

pub returns-in-None : goal.returns-in-None
returns-in-None c = let size = c.args.window.size in
    unseen size (in_clip c.args.window.clip) c.args.rect (rastered session_colors c.args.rop (absent session_colors) (shifted (rows_of size.w size.h c.args.pixels.now) 0 c.args.rect c.args.sx c.args.sy)) c.args.pixels.now c.requires.canvas.sized
    (λ x y left above. c.in-None.ensures.pixels x y left above)
