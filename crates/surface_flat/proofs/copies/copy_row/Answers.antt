use Rattle.std.proofs.Common.{◌≡◌, ◌+◌, ◌*◌, ◌-◌, ◌<◌, get_or, refl, ap, ◌∙◌, arith}
use Rattle.px_core.specs.Picture.{pixel_at}
use Rattle.surface_parts.specs.Textures.{copied_color}
use Rattle.surface_parts.proofs.Repaint.{same_mix, stretch_fits, length_mid, stretch_pixel, row_stretch}
use Rattle.surface_flat.proofs.copies.copy_row.Goals as goal

pub slice_bounds-copy_from_slice-end : goal.slice_bounds-copy_from_slice-end
slice_bounds-copy_from_slice-end c = let p = c.args.part in let copy = c.args.copy in let size = c.args.size in
    let fits = stretch_fits size copy.x (copy.y + (c.args.y - p.y)) p.w c.args.pixels.now c.requires.canvas.sized (omega (arith, c.requires.from.rows)) c.requires.from.columns in
    omega (arith, fits)

pub returns : goal.returns
returns c = let p = c.args.part in let copy = c.args.copy in let size = c.args.size in let old = c.args.pixels.now in let y = c.args.y in
    let high : y < size.h = omega (arith, c.requires.inside.rows) in
    let n = size.w * y + p.x in
    let em : (n + p.w) - n ≡ p.w = omega arith in
    let from = size.w * (copy.y + (y - p.y)) + copy.x in
    let ef : (from + p.w) - from ≡ p.w = omega arith in
    let wide = length_mid n ((n + p.w) - n) p.w old (stretch_fits size p.x y p.w old c.requires.canvas.sized high c.requires.inside.columns) em in
    row_stretch size p.x p.w (copied_color size old p copy) old c.rop_lanes.new.d y n ((n + p.w) - n) c.requires.canvas.sized high c.requires.inside.columns refl em
    (c.rop_lanes.auto.d ∙ wide)
    (λ i below. let column : i ≡ (p.x + i) - p.x = omega arith in c.rop_lanes.ensures i (omega (arith, below, wide))
    ∙ same_mix copy.rop _ _ _ _ _ _ (c.requires.blank i (omega (arith, below, c.requires.pattern)))
    (ap (λ xs. get_or xs i 0) c.copy_from_slice.ensures.after ∙ stretch_pixel size from ((from + p.w) - from) copy.x (copy.y + (y - p.y)) i old refl (omega (arith, below, ef))
    ∙ ap (λ k. pixel_at size old 0 (copy.x + k) (copy.y + (y - p.y))) column)
    (stretch_pixel size n ((n + p.w) - n) p.x y i old refl (omega (arith, below, em))))
