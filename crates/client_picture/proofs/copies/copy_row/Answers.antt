use Rattle.std.proofs.Common.{◌≡◌, ℕ, ◌+◌, ◌*◌, ◌-◌, ◌<◌, List, get_or, refl, ap, ◌∙◌, arith}
use Rattle.std.specs.Prelude.{Option, Some, None}
use borrow.Rule.Slice.PartMut.{mid_of}
use Rattle.px_core.specs.Picture.{pixel_at}
use Rattle.draw_ops.specs.Depths.{maybe_raster_at}
use Rattle.client_picture.specs.Sources.{copied_color}
use Rattle.client_picture.proofs.Repaint.{stretch_fits, length_mid, stretch_pixel, row_stretch}
use Rattle.client_picture.proofs.copies.copy_row.Goals as goal

pub returns : goal.returns
returns c = let p = c.args.part in let from = c.args.from in let size = c.args.size in let old = c.args.pixels.now in let y = c.args.y in
    let high : y < size.h = omega (arith, c.requires.inside.rows) in
    let n = size.w * y + p.x in
    let em : (n + p.w) - n ≡ p.w = omega arith in
    let start = size.w * (from.y + (y - p.y)) + from.x in
    let es : (start + p.w) - start ≡ p.w = omega arith in
    let wide = length_mid n ((n + p.w) - n) p.w old (stretch_fits size p.x y p.w old c.requires.canvas.sized high c.requires.inside.columns) em in
    row_stretch size p.x p.w (copied_color c.args.depth size old p c.args.rop from) old c.mix_source.new.row y n ((n + p.w) - n) c.requires.canvas.sized high c.requires.inside.columns refl em
    (c.mix_source.auto.row ∙ wide)
    (λ i below. let column : i ≡ (p.x + i) - p.x = omega arith in c.mix_source.ensures i (omega (arith, below, wide))
    ∙ ap (λ (s : Option ℕ). maybe_raster_at c.args.depth c.args.rop (Some 0) s (get_or (mid_of n ((n + p.w) - n) old) i None))
    (ap (λ (xs : List (Option ℕ)). get_or xs i None) c.copy_from_slice.ensures.after ∙ stretch_pixel size start ((start + p.w) - start) from.x (from.y + (y - p.y)) i old refl (omega (arith, below, es))
    ∙ ap (λ k. pixel_at size old None (from.x + k) (from.y + (y - p.y))) column)
    ∙ ap (λ (d : Option ℕ). maybe_raster_at c.args.depth c.args.rop (Some 0) (pixel_at size old None (from.x + ((p.x + i) - p.x)) (from.y + (y - p.y))) d)
    (stretch_pixel size n ((n + p.w) - n) p.x y i old refl (omega (arith, below, em))))
