use Rattle.std.proofs.Common.{◌≡◌, ◌∙◌, pos, ◌+◌, ap, arith, drop, w32, to_z, of_z}
use Rattle.std.specs.Prelude.{◌+ℤ◌, slice_index_or}
use Rattle.std.proofs.lemmas.Grind.{common_steps}
use Rattle.std.proofs.lemmas.Int.{to_z-of_z}
use Rattle.draw_ops.specs.Formulas.{glyph_cell, joint_of}
use Rattle.session_core.specs.Cells.{cells_along}
use Rattle.session_core.proofs.CellLemmas.{plain_at, one_cell, more_cells}
use Rattle.session_core.proofs.cells.+rect_from.Goals as goal

pub cell-first-requires-clause-plain : goal.cell-first-requires-clause-plain
cell-first-requires-clause-plain t c =
    rw c.content.ensures (plain_at c.args.glyphs.now c.args.i c.index-glyphs-i.result c.requires.plain (omega (arith, c.requires.some, c.requires.each)) c.index-glyphs-i.is)

pub returns-then-i-pairs-clause-rect : goal.returns-then-i-pairs-clause-rect
returns-then-i-pairs-clause-rect t c =
    let ex : to_z w32 (of_z w32 c.args.x) ≡ c.args.x = grind (arith, common_steps, to_z-of_z) in
    let ey : to_z w32 (of_z w32 c.args.y) ≡ c.args.y = grind (arith, common_steps, to_z-of_z) in
    let ep : to_z w32 (of_z w32 c.moved-pen.result) ≡ c.moved-pen.result = grind (arith, common_steps, to_z-of_z) in
    one_cell c.args.glyphs.now c.args.pairs.now c.args.i c.args.x c.args.y c.moved-pen.result c.index-glyphs-i.result c.cell-first.result c.requires.each c.if-i-pairs.true
    c.index-glyphs-i.is (c.moved-pen.ensures ∙ ap (λ z. z +ℤ pos (slice_index_or c.args.pairs.now c.args.i (0, 0)).1) ex)
    (c.cell-first.ensures.cell ∙ (λ i. glyph_cell (c.content.ensures i) (ep i) (ey i)))

pub returns-else-i-pairs-clause-rect : goal.returns-else-i-pairs-clause-rect
returns-else-i-pairs-clause-rect t c =
    let ex : to_z w32 (of_z w32 c.args.x) ≡ c.args.x = grind (arith, common_steps, to_z-of_z) in
    let ey : to_z w32 (of_z w32 c.args.y) ≡ c.args.y = grind (arith, common_steps, to_z-of_z) in
    let ep : to_z w32 (of_z w32 c.moved-pen.result) ≡ c.moved-pen.result = grind (arith, common_steps, to_z-of_z) in
    more_cells c.args.glyphs.now c.args.pairs.now c.args.i c.args.x c.args.y c.moved-pen.result c.index-glyphs-i.result c.cell-first.result c.rect_from.result c.joint.result
    c.requires.each (omega (arith, c.requires.some, c.if-i-pairs.false)) c.index-glyphs-i.is (c.moved-pen.ensures ∙ ap (λ z. z +ℤ pos (slice_index_or c.args.pairs.now c.args.i (0, 0)).1) ex)
    (c.cell-first.ensures.cell ∙ (λ i. glyph_cell (c.content.ensures i) (ep i) (ey i)))
    (c.rect_from.ensures.rect ∙ (λ i. joint_of (cells_along (drop (c.args.i + 1) c.args.glyphs.now) (drop (c.args.i + 1) c.args.pairs.now) (ep i) (ey i)))) c.joint.ensures.joint
