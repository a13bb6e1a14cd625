use Rattle.std.proofs.Common.{rules, ◌≡◌, ◌∷◌, [], sym, w32, to_z, of_z}
use Rattle.std.proofs.lemmas.Int.{to_z-of_z}
use Rattle.script_rules.specs.Fields.Field.{Small, Digits}
use Rattle.script_lines.proofs.Fields.{then_reads, then_none, none_first, reads_same, same_point}
use Rattle.script_lines.proofs.text.next_pen.Goals as goal

pub returns-in_err-from : goal.returns-in_err-from
returns-in_err-from c = rw c.from_residual.ensures (none_first (Digits 6 ∷ Small ∷ []) c.in_err-from.ensures)

pub returns-in_err-color : goal.returns-in_err-color
returns-in_err-color c = rw c.from_residual-in_err-color.ensures (none_first (Small ∷ []) (then_none c.in_ok-from.ensures c.in_err-color.ensures))

pub returns-in_err-font : goal.returns-in_err-font
returns-in_err-font c = rw c.from_residual-in_err-font.ensures (then_none (then_reads c.in_ok-from.ensures c.in_ok-color.ensures) c.in_err-font.ensures)

pub returns : goal.returns
returns c =
    let from_x : c.in_ok-from.from.x ≡ to_z w32 (of_z w32 c.in_ok-from.from.x) = sym (search (rules, to_z-of_z)) in
    let from_y : c.in_ok-from.from.y ≡ to_z w32 (of_z w32 c.in_ok-from.from.y) = sym (search (rules, to_z-of_z)) in
    then_reads (then_reads (reads_same c.in_ok-from.ensures (same_point from_x from_y)) c.in_ok-color.ensures) c.in_ok-font.ensures
