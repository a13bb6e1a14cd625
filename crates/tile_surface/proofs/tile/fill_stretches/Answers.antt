use Rattle.std.proofs.Common.{◌≡◌, ◌+◌, ◌*◌, ◌-◌, length, ◌∙◌, arith}
use Rattle.surface_parts.proofs.Repaint.{all_rows, length_mid, next_row_down, no_rows}
use Rattle.tile_surface.specs.Cells.{tile_sides}
use Rattle.tile_surface.proofs.tile.fill_stretches.Goals as goal

pub loop-y-init : goal.loop-y-init
loop-y-init c = let p = c.args.piece in no_rows tile_sides p.x p.y p.w (p.y - p.y) (λ x y. c.args.color) c.args.pixels.now (omega arith)

pub loop-y-preserved : goal.loop-y-preserved
loop-y-preserved c = let p = c.args.piece in let y = c.loop-y.y in let a = 64 * y + p.x in let cur = c.loop-y.pixels in
    let whole : length cur ≡ 4096 = c.loop-y.auto.pixels ∙ c.requires.pixels in
    let em : (a + p.w) - a ≡ p.w = omega arith in
    let wide = length_mid a ((a + p.w) - a) p.w cur (omega (arith, whole, c.requires.inside.columns, c.requires.inside.rows, c.loop-y-test.true)) em in
    let long : length c.fill_lanes.new.row ≡ p.w = c.fill_lanes.auto.row ∙ wide in
    next_row_down tile_sides p.x p.y p.w (λ x v. c.args.color) c.args.pixels.now cur c.fill_lanes.new.row y a ((a + p.w) - a) c.loop-y.invariant whole c.loop-y.auto.y
    (omega (arith, c.requires.inside.rows, c.loop-y-test.true)) c.requires.inside.columns (omega arith) em long
    (λ i below. c.fill_lanes.ensures i (omega (arith, below, wide)))

pub returns : goal.returns
returns c = let p = c.args.piece in all_rows tile_sides p.x p.y p.w (c.loop-y.y - p.y) p.h (λ x y. c.args.color) c.args.pixels.now c.loop-y.pixels (omega arith) c.loop-y.invariant
