use Rattle.std.proofs.Common.{◌≡◌, ◌+◌, ◌*◌, ◌-◌, ◌∙◌, arith}
use Rattle.surface_parts.proofs.Repaint.{length_mid}
use Rattle.tile_surface.proofs.Filled.{whole_rows}
use Rattle.tile_surface.proofs.tile.fill_whole_rows.Goals as goal

pub returns : goal.returns
returns c = let y = c.args.y in let h = c.args.h in let a = 64 * y in let ps = c.args.pixels.now in
    let em : (a + 64 * h) - a ≡ 64 * h = omega arith in
    let wide = length_mid a ((a + 64 * h) - a) (64 * h) ps (omega (arith, c.requires.pixels, c.requires.rows)) em in
    whole_rows y h a ((a + 64 * h) - a) c.args.color ps c.fill_lanes.new.row c.requires.pixels c.requires.rows (omega arith) em (c.fill_lanes.auto.row ∙ wide ∙ (omega (arith, em)))
    (λ k below. c.fill_lanes.ensures k (omega (arith, below, em, wide)))
