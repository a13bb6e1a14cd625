use Rattle.std.proofs.Common.{◌≡◌, ℕ, ◌+◌, ◌*◌, ◌-◌, List, length, get_or, sym, ap, ◌∙◌, arith}
use Rattle.surface_parts.proofs.Repaint.{length_mid}
use Rattle.tile_surface.proofs.Changed.{stretch_changed}
use Rattle.tile_surface.proofs.tile.Tile.write.Goals as goal

pub returns : goal.returns
returns c = let x = c.args.x in let y = c.args.y in let n = length c.args.row.now in let a = 64 * y + x in let old = c.args.self.now in let now = c.deref_mut.result.now in
    let e : now ≡ old = c.deref_mut.ensures.value ∙ c.self.view_is in
    let whole : length old ≡ 4096 = ap (λ (ps : List ℕ). length ps) (sym c.self.view_is) ∙ c.self.invariant in
    let is_whole : length now ≡ 4096 = ap (λ (ps : List ℕ). length ps) e ∙ whole in
    let em : (a + n) - a ≡ n = omega arith in
    let wide = length_mid a ((a + n) - a) n now (omega (arith, is_whole, c.requires.columns, c.requires.row)) em in
    stretch_changed (λ k d. get_or c.args.row.now k 0) x y n a ((a + n) - a) old now c.copy_lanes.new.to e whole c.requires.columns c.requires.row (omega arith) em
    (c.copy_lanes.auto.to ∙ wide) (λ k below. c.copy_lanes.ensures k (omega (arith, below, wide)))
