use Rattle.std.proofs.Common.{◌≡◌, ℕ, ap, sym, refl, w32, to_z, of_z}
use Rattle.std.specs.Prelude.{Option, Some, None}
use Rattle.std.proofs.lemmas.Int.{to_z-of_z}
use Rattle.px_core.specs.Picture.{pixel_at, rows_of}
use Rattle.px_core.specs.Rectangle.{boxed, in_clip}
use Rattle.draw_ops.specs.Depths.{client_colors_at, maybe_raster_at}
use Rattle.draw_ops.specs.Formulas.{rastered, shifted}
use Rattle.order_means.specs.ClientState.{no_operand}
use Rattle.client_picture.specs.Parts.{in_part}
use Rattle.client_picture.specs.Sources.{copied_color}
use Rattle.client_picture.proofs.Paintings.{over_rect_is, unseen}
use Rattle.client_picture.proofs.Shifts.{is_on, corner_is, source_inside, shifted_is}
use Rattle.client_picture.proofs.rects.copy_rect.Goals as goal

pub copy_part-requires-clause-from : goal.copy_part-requires-clause-from
copy_part-requires-clause-from c = let size = c.args.size in let r = c.args.rect in
    let ex : to_z w32 (of_z w32 c.args.sx) ≡ c.args.sx = to_z-of_z w32 c.args.sx c.ranges.sx in
    let ey : to_z w32 (of_z w32 c.args.sy) ≡ c.args.sy = to_z-of_z w32 c.args.sy c.ranges.sy in
    let corner = corner_is c.args.rect (to_z w32 (of_z w32 c.args.sx)) (to_z w32 (of_z w32 c.args.sy)) c.args.sx c.args.sy c.in-Some.part c.corner_of-from.result c.corner_of-from.ensures ex ey in
    source_inside size.w size.h r c.args.sx c.args.sy c.in-Some.part c.corner_of-from.result corner (is_on size (boxed c.args.sx c.args.sy r.w r.h) c.requires.inside) c.in-Some.ensures.within size refl refl

pub returns-in-Some : goal.returns-in-Some
returns-in-Some c = let size = c.args.size in let old = c.args.pixels.now in let r = c.args.rect in let p = c.in-Some.part in let from = c.corner_of-from.result in let sx = c.args.sx in let sy = c.args.sy in
    let ex : to_z w32 (of_z w32 c.args.sx) ≡ c.args.sx = to_z-of_z w32 c.args.sx c.ranges.sx in
    let ey : to_z w32 (of_z w32 c.args.sy) ≡ c.args.sy = to_z-of_z w32 c.args.sy c.ranges.sy in
    let corner = corner_is c.args.rect (to_z w32 (of_z w32 c.args.sx)) (to_z w32 (of_z w32 c.args.sy)) c.args.sx c.args.sy c.in-Some.part c.corner_of-from.result c.corner_of-from.ensures ex ey in
    over_rect_is size (in_clip c.args.bounds) r (rastered (client_colors_at c.args.depth) c.args.rop no_operand (shifted (rows_of size.w size.h old) None r sx sy)) old c.requires.canvas.sized
    (in_part p) (copied_color c.args.depth size old p c.args.rop from) c.copy_part.new.pixels c.copy_part.ensures (λ x y left above. c.in-Some.ensures.pixels x y left above)
    (λ x y left above h. ap (λ (s : Option ℕ). maybe_raster_at c.args.depth c.args.rop (Some 0) s (pixel_at size old None x y))
    (sym (shifted_is size.w size.h r sx sy p from corner (is_on size (boxed sx sy r.w r.h) c.requires.inside) c.in-Some.ensures.within old None x y h)))

pub returns-in-None : goal.returns-in-None
returns-in-None c = let size = c.args.size in
    unseen size (in_clip c.args.bounds) c.args.rect (rastered (client_colors_at c.args.depth) c.args.rop no_operand (shifted (rows_of size.w size.h c.args.pixels.now) None c.args.rect c.args.sx c.args.sy)) c.args.pixels.now c.requires.canvas.sized
    (λ x y left above. c.in-None.ensures.pixels x y left above)
