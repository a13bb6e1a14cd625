use Rattle.std.proofs.Common.{◌≡◌, ◌+◌, ◌*◌, ◌-◌, ℕ, get_or, ◌∙◌, ap, arith}
use Rattle.std.specs.Prelude.{Some}
use Rattle.client_picture.specs.Sources.{copied}
use Rattle.client_picture.proofs.Repaint.{color_item}
use Rattle.client_picture.proofs.mix.copy_row.Goals as goal

pub returns : goal.returns
returns c = λ i below. let p = c.args.part in let t = c.args.texture in let y = c.args.y in
    let from = t.w * (t.from.y + (y - p.y)) + t.from.x in
    c.copy_colors.ensures i below ∙ ap (λ (n : ℕ). copied (Some n)) (color_item from ((from + p.w) - from) t.pixels.now i (omega (arith, below))
    ∙ ap (λ k. get_or t.pixels.now k 0) (let column : i ≡ (p.x + i) - p.x = omega arith in omega (arith, column)))
