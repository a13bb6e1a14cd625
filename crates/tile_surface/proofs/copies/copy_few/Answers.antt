use Rattle.std.proofs.Common.{◌≡◌, ◌+◌, ◌-◌, ◌*◌, ◌≤◌, ◌<◌, get_or, sym, ap, ◌∙◌, arith}
use Rattle.std.proofs.lemmas.Bool.Decides.{nat_tests}
use Rattle.px_core.specs.Picture.{pixel_at}
use Rattle.px_core.proofs.Pictures.{item-get_or}
use Rattle.rop3_core.specs.Rop3.{ternary_raster}
use Rattle.rop3_core.proofs.WholeWords.{copy_is_raster}
use Rattle.surface_parts.specs.Parts.{in_part, part_at}
use Rattle.surface_parts.specs.Textures.{copied_color}
use Rattle.surface_parts.proofs.Repaint.{under_true}
use Rattle.tile_surface.specs.Cells.{picture_of}
use Rattle.tile_surface.proofs.Colored.{color_whole}
use Rattle.tile_surface.proofs.Pasted.{painted_alike}
use Rattle.tile_surface.proofs.copies.copy_few.Goals as goal

pub paste_part-requires-clause-texture : goal.paste_part-requires-clause-texture
paste_part-requires-clause-texture c = let p = c.args.part in let none : 0 + p.h ≡ p.h = omega arith in record {
  columns = omega arith;
  rows = let same : p.w * (0 + p.h) ≡ p.w * p.h = ap (λ n. p.w * n) none in omega (arith, same, c.cut_part.auto.out, c.requires.room);
  narrow = omega (arith, c.requires.inside.columns, c.requires.tiled.small.wide);
  low = omega (arith, c.requires.inside.rows, c.requires.tiled.small.high);
}

pub returns-clause-painted : goal.returns-clause-painted
returns-clause-painted c = let p = c.args.part in let copy = c.args.copy in let size = c.args.size in let old = picture_of size c.args.cells.now in let read = c.cut_part.new.out in
    painted_alike size (in_part p) _ (copied_color size old p copy) old (picture_of size c.paste_part.new.cells) c.paste_part.ensures.painted
    (λ x y left above h.
    let l : p.x ≤ x = grind (arith, nat_tests, h) in
    let r : x < p.x + p.w = grind (arith, nat_tests, h) in
    let a : p.y ≤ y = grind (arith, nat_tests, h) in
    let b : y < p.y + p.h = grind (arith, nat_tests, h) in
    let u = x - p.x in
    let v = y - p.y in
    let ev : 0 + (y - p.y) ≡ y - p.y = omega arith in
    let eu : 0 + (x - p.x) ≡ x - p.x = omega arith in
    let column : x - p.x < p.w = omega (arith, l, r) in
    let row : y - p.y < p.h = omega (arith, a, b) in
    ap (λ k. get_or read (p.w * k + (0 + (x - p.x))) 0) ev
    ∙ ap (λ k. get_or read (p.w * (y - p.y) + k) 0) eu
    ∙ sym (item-get_or read (p.w * (y - p.y) + (x - p.x)) 0)
    ∙ c.cut_part.ensures.pixel (x - p.x) (y - p.y) column row
    ∙ sym (under_true (in_part (part_at 0 0 p.w p.h) (x - p.x) (y - p.y)) _ _ (grind (arith, nat_tests, column, row)))
    ∙ color_whole (pixel_at size old 0 (copy.x + (x - p.x)) (copy.y + (y - p.y)))
    (c.requires.colors (copy.x + (x - p.x)) (copy.y + (y - p.y)) (omega (arith, column, c.requires.from.columns)) (omega (arith, row, c.requires.from.rows)))
    ∙ copy_is_raster 0 (pixel_at size old 0 (copy.x + (x - p.x)) (copy.y + (y - p.y))) (pixel_at size old 0 x y)
    ∙ ap (λ r. ternary_raster r 0 (pixel_at size old 0 (copy.x + (x - p.x)) (copy.y + (y - p.y))) (pixel_at size old 0 x y)) (sym c.requires.code))
