use Rattle.std.proofs.Common.{◌≡◌, ℕ, ◌+◌, ◌*◌, ◌-◌, ◌<◌, pos, refl, ap, ◌∙◌, arith}
use Rattle.std.specs.Prelude.{Option, Some, option_copied}
use Rattle.std.proofs.lemmas.Bool.Decides.{nat_tests}
use Rattle.draw_ops.specs.Depths.{maybe_raster_at}
use Rattle.client_picture.specs.Pictures.{brush_operand}
use Rattle.client_picture.specs.Sources.{mixed_color, source_color}
use Rattle.client_picture.proofs.Repaint.{stretch_fits, length_mid, stretch_pixel, untouched, no_rows, all_rows, next_row_down}
use Rattle.client_picture.proofs.mix.mix_part.Goals as goal

pub loop-y-init : goal.loop-y-init
loop-y-init c = let p = c.args.part in no_rows c.args.size p.x p.y p.w (p.y - p.y) (mixed_color c.args.size c.args.pixels.now p c.args.mix) c.args.pixels.now (omega arith)

pub loop-y-preserved : goal.loop-y-preserved
loop-y-preserved c = let p = c.args.part in let mix = c.args.mix in let size = c.args.size in let cur = c.loop-y.pixels in let old = c.args.pixels.now in let y = c.loop-y.y in
    let high : y < size.h = omega (arith, c.requires.inside.rows) in
    let whole = c.loop-y.auto.pixels ∙ c.requires.canvas.sized in
    let n = size.w * y + p.x in
    let em : (n + p.w) - n ≡ p.w = omega arith in
    let wide = length_mid n ((n + p.w) - n) p.w cur (stretch_fits size p.x y p.w cur whole high c.requires.inside.columns) em in
    next_row_down size p.x p.y p.w (mixed_color size old p mix) old cur c.mix_row.new.row y n ((n + p.w) - n) c.loop-y.invariant whole c.loop-y.auto.y high c.requires.inside.columns refl em
    (c.mix_row.auto.row ∙ wide)
    (λ i below. c.mix_row.ensures i (omega (arith, below, wide))
    ∙ ap (λ (d : Option ℕ). maybe_raster_at mix.depth mix.rop (brush_operand (option_copied mix.brush) (pos (p.x + i)) (pos y)) (Some (source_color p mix.texture (p.x + i) y)) d)
    (stretch_pixel size n ((n + p.w) - n) p.x y i cur refl (omega (arith, below, em))
    ∙ untouched size p.x p.y p.w (y - p.y) (mixed_color size old p mix) old cur (p.x + i) y c.loop-y.invariant (omega (arith, below, c.requires.inside.columns)) high (grind (arith, nat_tests, c.loop-y.auto.y))))

pub returns : goal.returns
returns c = let p = c.args.part in all_rows c.args.size p.x p.y p.w (c.loop-y.y - p.y) p.h (mixed_color c.args.size c.args.pixels.now p c.args.mix) c.args.pixels.now c.loop-y.pixels (omega arith) c.loop-y.invariant
