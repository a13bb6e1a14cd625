use Rattle.std.proofs.Common.{◌≡◌, ◌+◌, ◌*◌, ◌-◌, ◌<◌, refl, ◌∙◌, arith}
use Rattle.std.proofs.lemmas.Bool.Decides.{nat_tests}
use Rattle.surface_parts.specs.Textures.{mixed_color}
use Rattle.surface_parts.proofs.Repaint.{same_mix, stretch_fits, length_mid, stretch_pixel, untouched, next_row_down}
use Rattle.surface_parts.proofs.mix.mix_part.Goals as goal

pub loop-y-preserved : goal.loop-y-preserved
loop-y-preserved c = let p = c.args.part in let mix = c.args.mix in let size = c.args.size in let cur = c.loop-y.pixels in let old = c.args.pixels.now in let y = c.loop-y.y in
    let high : y < size.h = omega (arith, c.requires.inside.rows) in
    let whole = c.loop-y.auto.pixels ∙ c.requires.canvas.sized in
    let n = size.w * y + p.x in
    let m = (n + p.w) - n in
    let em : (n + p.w) - n ≡ p.w = omega arith in
    let wide = length_mid n ((n + p.w) - n) p.w cur (stretch_fits size p.x y p.w cur whole high c.requires.inside.columns) em in (
      next_row_down size p.x p.y p.w (mixed_color size old p mix) old cur c.rop_lanes.new.d y n ((n + p.w) - n) c.loop-y.invariant.0 whole c.loop-y.auto.y high c.requires.inside.columns refl em
          (c.rop_lanes.auto.d ∙ wide)
          (λ i below. c.rop_lanes.ensures i (omega (arith, below, wide))
          ∙ same_mix mix.rop _ _ _ _ _ _ (c.set_pattern.ensures.colors i (omega (arith, below, c.requires.pattern, c.loop-y.auto.pattern))) (c.set_source.ensures.colors i below)
          (stretch_pixel size n ((n + p.w) - n) p.x y i cur refl (omega (arith, below, em))
          ∙ untouched size p.x p.y p.w (y - p.y) (mixed_color size old p mix) old cur (p.x + i) y c.loop-y.invariant.0 (omega (arith, below, c.requires.inside.columns)) high (grind (arith, nat_tests, c.loop-y.auto.y)))),
      c.set_pattern.ensures.ready,
      c.set_source.ensures.ready,
    )
