use Rattle.std.proofs.Common.{◌≡◌, ℕ, ◌+◌, ◌*◌, ◌-◌, ◌%◌, ◌≤◌, List, Option, Some, None, refl, ap, arith, ◌∙◌}
use Rattle.std.specs.Prelude.{pos, option_copied}
use Rattle.std.proofs.lemmas.Bool.Decides.{nat_tests}
use Rattle.px_core.specs.Picture.{item}
use Rattle.draw_ops.specs.Drawing.{pattern_of}
use Rattle.surface_parts.proofs.Repaint.{same_mix}
use Rattle.tile_surface.proofs.Pasted.{painted_alike}
use Rattle.tile_surface.proofs.mixes.BlendDye.dye.Goals as goal

-- a brush is the same from each tile's corner on
pattern_there : (brush : Option (List ℕ)) (x y a b u v : ℕ) → a ≡ x % 64 → b ≡ y % 64 → a ≤ u → b ≤ v → pattern_of brush (pos u) (pos v) ≡ pattern_of brush (pos (x + (u - a))) (pos (y + (v - b)))
pattern_there None x y a b u v column row left above = refl
pattern_there (Some colors) x y a b u v column row left above =
    let across : u % 8 ≡ (x + (u - a)) % 8 = omega (arith, column, left) in
    let down : v % 8 ≡ (y + (v - b)) % 8 = omega (arith, row, above) in
    ap (λ k. item colors (8 * (v % 8) + k) 0) across ∙ ap (λ k. item colors (8 * k + (x + (u - a)) % 8) 0) down

pub returns-clause-painted : goal.returns-clause-painted
returns-clause-painted c =
    let piece = c.args.piece in let is = c.requires.piece in
    painted_alike _ _ _ _ _ _ c.blend.ensures.painted (λ u v wide high here.
    let left : piece.spot.x ≤ u = grind (arith, nat_tests, here) in
    let above : piece.spot.y ≤ v = grind (arith, nat_tests, here) in
    same_mix c.args.self.now.rop _ _ _ _ _ _
    (pattern_there (option_copied c.args.self.now.brush) piece.x piece.y piece.spot.x piece.spot.y u v is.column is.row left above)
    (c.texture_there-texture.ensures.colors u v) refl)
