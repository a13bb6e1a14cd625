use Rattle.std.proofs.Common.{◌≡◌, ◌+◌, ◌*◌, ◌-◌, length, refl, ◌∙◌, arith}
use Rattle.std.specs.Prelude.{Some}
use borrow.Rule.Slice.PartMut.{mid_of}
use Rattle.client_picture.proofs.Repaint.{stretch_fits, length_mid, row_stretch}
use Rattle.client_picture.proofs.rows.fill_line.Goals as goal

pub returns : goal.returns
returns c = let size = c.args.size in let x = c.args.x in let y = c.args.y in let w = c.args.w in let old = c.args.pixels.now in
    let n = size.w * y + x in
    let em : (n + w) - n ≡ w = omega arith in
    let wide : length (mid_of n ((n + w) - n) old) ≡ w = length_mid n ((n + w) - n) w old (stretch_fits size x y w old c.requires.canvas.sized c.requires.row c.requires.columns) em in
    row_stretch size x w (λ u v. Some c.args.color) old c.fill_row.new.row y n ((n + w) - n) c.requires.canvas.sized c.requires.row c.requires.columns refl em
    (c.fill_row.auto.row ∙ wide) (λ i below. c.fill_row.ensures i (omega (arith, below, wide)))
