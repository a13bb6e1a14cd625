use Rattle.std.proofs.Common.{◌+◌, ◌*◌, ◌-◌, ◌<◌, refl, ◌∙◌, arith}
use Rattle.surface_parts.proofs.Repaint.{stretch_fits, length_mid, no_rows, all_rows, next_row_down}
use Rattle.tile_surface.proofs.cuts.clear_part.Goals as goal

pub loop-y-init : goal.loop-y-init
loop-y-init c = let p = c.args.part in no_rows c.args.size p.x p.y p.w (p.y - p.y) (λ x y. 0) c.args.pixels.now (omega arith)

pub loop-y-preserved : goal.loop-y-preserved
loop-y-preserved c = let p = c.args.part in let size = c.args.size in let cur = c.loop-y.pixels in let y = c.loop-y.y in
    let high : y < size.h = omega (arith, c.requires.inside.rows) in
    let whole = c.loop-y.auto.pixels ∙ c.requires.canvas.sized in
    let n = size.w * y + p.x in
    let fits = stretch_fits size p.x y p.w cur whole high c.requires.inside.columns in
    let wide = length_mid n ((n + p.w) - n) p.w cur fits (omega arith) in
    next_row_down size p.x p.y p.w (λ u v. 0) c.args.pixels.now cur c.fill_lanes.new.row y n ((n + p.w) - n) c.loop-y.invariant whole c.loop-y.auto.y high c.requires.inside.columns refl (omega arith) (c.fill_lanes.auto.row ∙ wide)
    (λ i below. c.fill_lanes.ensures i (omega (arith, below, wide)))

pub returns : goal.returns
returns c = let p = c.args.part in all_rows c.args.size p.x p.y p.w (c.loop-y.y - p.y) p.h (λ u v. 0) c.args.pixels.now c.loop-y.pixels (omega arith) c.loop-y.invariant
