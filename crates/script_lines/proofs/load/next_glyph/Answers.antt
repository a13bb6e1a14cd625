use Rattle.std.proofs.Common.{rules, ◌≡◌, ◌∷◌, [], sym, w32, to_z, of_z}
use Rattle.std.proofs.lemmas.Int.{to_z-of_z}
use Rattle.script_rules.specs.Fields.Field.{Coordinate, Count, Small}
use Rattle.script_lines.proofs.Fields.{then_reads, then_none, none_first, reads_same, same_point}
use Rattle.script_lines.proofs.load.next_glyph.Goals as goal

pub returns-in_err-font : goal.returns-in_err-font
returns-in_err-font c = rw c.from_residual.ensures (none_first (Small ∷ Coordinate ∷ Coordinate ∷ Count ∷ Count ∷ []) c.in_err-font.ensures)

pub returns-in_err-code : goal.returns-in_err-code
returns-in_err-code c = rw c.from_residual-in_err-code.ensures (none_first (Coordinate ∷ Coordinate ∷ Count ∷ Count ∷ []) (then_none c.in_ok-font.ensures c.in_err-code.ensures))

pub returns-in_err-corner : goal.returns-in_err-corner
returns-in_err-corner c = rw c.from_residual-in_err-corner.ensures (none_first (Count ∷ Count ∷ []) (then_none (then_reads c.in_ok-font.ensures c.in_ok-code.ensures) c.in_err-corner.ensures))

pub returns-in_err-cx : goal.returns-in_err-cx
returns-in_err-cx c = rw c.from_residual-in_err-cx.ensures (none_first (Count ∷ []) (then_none (then_reads (then_reads c.in_ok-font.ensures c.in_ok-code.ensures) c.in_ok-corner.ensures) c.in_err-cx.ensures))

pub returns-in_err-cy : goal.returns-in_err-cy
returns-in_err-cy c = rw c.from_residual-in_err-cy.ensures (then_none (then_reads (then_reads (then_reads c.in_ok-font.ensures c.in_ok-code.ensures) c.in_ok-corner.ensures) c.in_ok-cx.ensures) c.in_err-cy.ensures)

pub returns : goal.returns
returns c =
    let corner_x : c.in_ok-corner.corner.x ≡ to_z w32 (of_z w32 c.in_ok-corner.corner.x) = sym (search (rules, to_z-of_z)) in
    let corner_y : c.in_ok-corner.corner.y ≡ to_z w32 (of_z w32 c.in_ok-corner.corner.y) = sym (search (rules, to_z-of_z)) in
    then_reads (then_reads (then_reads (then_reads c.in_ok-font.ensures c.in_ok-code.ensures) (reads_same c.in_ok-corner.ensures (same_point corner_x corner_y))) c.in_ok-cx.ensures) c.in_ok-cy.ensures
