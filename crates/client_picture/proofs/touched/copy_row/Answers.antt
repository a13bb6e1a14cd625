use Rattle.std.proofs.Common.{◌≡◌, ◌+◌, ◌*◌, ◌-◌, ◌≤◌, List, ℕ, get_or, refl, ap, ◌∙◌, arith}
use Rattle.std.specs.Prelude.{Option, None}
use Rattle.px_core.specs.Picture.{pixel_at}
use Rattle.client_picture.proofs.Repaint.{stretch_fits, length_mid, stretch_pixel, row_stretch}
use Rattle.client_picture.proofs.touched.copy_row.Goals as goal

pub slice_bounds-copy_from_slice-end : goal.slice_bounds-copy_from_slice-end
slice_bounds-copy_from_slice-end c = let size = c.args.size in let from = c.args.from in let w = c.args.end - from in
    omega (arith, stretch_fits size from c.args.y w c.args.picture.now c.requires.canvas.sized c.requires.row (omega (arith, c.requires.ordered, c.requires.within)))

pub returns : goal.returns
returns c = let size = c.args.size in let y = c.args.y in let old = c.args.marked.now in let ps = c.args.picture.now in let from = c.args.from in let w = c.args.end - from in
    let n = size.w * y + from in
    let em : (n + w) - n ≡ w = omega arith in
    let fits : from + w ≤ size.w = omega (arith, c.requires.ordered, c.requires.within) in
    let wide = length_mid n ((n + w) - n) w old (stretch_fits size from y w old c.requires.marked.sized c.requires.row fits) em in
    row_stretch size from w (λ u v. pixel_at size ps None u v) old c.copy_from_slice.new.self y n ((n + w) - n) c.requires.marked.sized c.requires.row fits refl em
    (c.copy_from_slice.ensures.len ∙ wide)
    (λ i below. ap (λ (xs : List (Option ℕ)). get_or xs i None) c.copy_from_slice.ensures.after ∙ stretch_pixel size n ((n + w) - n) from y i ps refl (omega (arith, below, em)))
