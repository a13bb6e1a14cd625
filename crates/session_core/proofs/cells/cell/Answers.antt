use Rattle.std.proofs.Common.{◌∙◌, arith, ◌+ℤ◌}
use Rattle.std.proofs.lemmas.Int.{ints}
use Rattle.session_core.proofs.CellLemmas.{glyph_keeps, same_rect}
use Rattle.session_core.proofs.cells.cell.Goals as goal

pub returns-clause-cell : goal.returns-clause-cell
returns-clause-cell c =
    let g = c.args.glyph.now in
    let k = glyph_keeps g c.requires.plain in
    let p = c.requires.pen in
    same_rect _ (c.args.x +ℤ g.x) _ (c.args.y +ℤ g.y) _ g.cx _ g.cy
    (omega (arith, ints, k.left, k.right, c.x.ensures, p.left, p.right)) (omega (arith, ints, k.above, k.below, c.y.ensures, p.row.low, p.row.high)) (c.from.ensures ∙ c.cx.ensures) (c.from-2.ensures ∙ c.cy.ensures)

pub returns-clause-reached : goal.returns-clause-reached
returns-clause-reached c =
    let g = c.args.glyph.now in
    let k = glyph_keeps g c.requires.plain in
    let p = c.requires.pen in
    record {
      columns = record {
        low = omega (arith, ints, k.left, k.right, c.x.ensures, p.left, p.right);
        high = omega (arith, ints, k.left, k.right, c.x.ensures, p.left, p.right, k.wide, c.from.ensures, c.cx.ensures);
      };
      rows = record {
        low = omega (arith, ints, k.above, k.below, c.y.ensures, p.row.low, p.row.high);
        high = omega (arith, ints, k.above, k.below, c.y.ensures, p.row.low, p.row.high, k.high, c.from-2.ensures, c.cy.ensures);
      };
    }
