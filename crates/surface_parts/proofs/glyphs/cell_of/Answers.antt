use Rattle.std.proofs.Common.{◌∙◌, arith, ◌+ℤ◌}
use Rattle.std.proofs.lemmas.Int.{ints}
use Rattle.surface_parts.proofs.Rules.{glyph_keeps, same_rect}
use Rattle.surface_parts.proofs.glyphs.cell_of.Goals as goal

pub returns-clause-cell : goal.returns-clause-cell
returns-clause-cell c = let g = c.args.glyph.now in let k = glyph_keeps g c.requires.rule in
    same_rect _ (c.args.x +ℤ g.x) _ (c.args.y +ℤ g.y) _ g.cx _ g.cy
    (omega (arith, ints, k.left, k.right, c.x.ensures)) (omega (arith, ints, k.above, k.below, c.y.ensures)) (c.from.ensures ∙ c.cx.ensures) (c.from-2.ensures ∙ c.cy.ensures)

pub returns-clause-placed : goal.returns-clause-placed
returns-clause-placed c = let g = c.args.glyph.now in let k = glyph_keeps g c.requires.rule in record {
  left = omega (arith, ints, k.left, k.right, c.x.ensures);
  right = omega (arith, ints, k.left, k.right, c.x.ensures);
  above = omega (arith, ints, k.above, k.below, c.y.ensures);
  below = omega (arith, ints, k.above, k.below, c.y.ensures);
  wide = omega (arith, k.wide, c.from.ensures, c.cx.ensures);
  high = omega (arith, k.high, c.from-2.ensures, c.cy.ensures);
}
