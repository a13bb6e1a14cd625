use Rattle.std.proofs.Common.{◌≡◌, ◌+◌, ◌*◌, ◌-◌, ◌<◌, get_or, refl, ◌∙◌, ap, arith}
use Rattle.surface_parts.specs.Textures.{texture_color}
use Rattle.surface_parts.proofs.Repaint.{stretch_fits, length_mid, mid_item, no_rows, all_rows, next_row_down}
use Rattle.surface_parts.proofs.rows.paste_part.Goals as goal

pub loop-y-init : goal.loop-y-init
loop-y-init c = let p = c.args.part in no_rows c.args.size p.x p.y p.w (p.y - p.y) (texture_color p c.args.texture) c.args.pixels.now (omega arith)

pub loop-y-preserved : goal.loop-y-preserved
loop-y-preserved c = let p = c.args.part in let t = c.args.texture in let size = c.args.size in let cur = c.loop-y.pixels in let y = c.loop-y.y in
    let high : y < size.h = omega (arith, c.requires.inside.rows) in
    let whole = c.loop-y.auto.pixels ∙ c.requires.canvas.sized in
    let n = size.w * y + p.x in
    let from = t.w * (t.y + (y - p.y)) + t.x in
    let fits = stretch_fits size p.x y p.w cur whole high c.requires.inside.columns in
    let wide = length_mid n ((n + p.w) - n) p.w cur fits (omega arith) in
    next_row_down size p.x p.y p.w (texture_color p t) c.args.pixels.now cur c.copy_lanes.new.to y n ((n + p.w) - n) c.loop-y.invariant whole c.loop-y.auto.y high c.requires.inside.columns refl (omega arith) (c.copy_lanes.auto.to ∙ wide)
    (λ i below. c.copy_lanes.ensures i (omega (arith, below, wide)) ∙ mid_item from ((from + p.w) - from) t.pixels.now i (omega (arith, below))
    ∙ ap (λ k. get_or t.pixels.now k 0) (let column : i ≡ (p.x + i) - p.x = omega arith in omega (arith, column)))

pub returns : goal.returns
returns c = let p = c.args.part in all_rows c.args.size p.x p.y p.w (c.loop-y.y - p.y) p.h (texture_color p c.args.texture) c.args.pixels.now c.loop-y.pixels (omega arith) c.loop-y.invariant
