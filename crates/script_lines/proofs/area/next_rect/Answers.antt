use Rattle.std.proofs.Common.{rules, ◌≡◌, ◌∷◌, [], sym, w32, to_z, of_z}
use Rattle.std.proofs.lemmas.Int.{to_z-of_z}
use Rattle.script_rules.specs.Fields.Field.{Coordinate, Count}
use Rattle.script_lines.proofs.Fields.{then_reads, then_none, none_first, reads_same, same_rect}
use Rattle.script_lines.proofs.area.next_rect.Goals as goal

pub returns-in_err-x : goal.returns-in_err-x
returns-in_err-x c = rw c.from_residual.ensures (none_first (Coordinate ∷ Count ∷ Count ∷ []) c.in_err-x.ensures)

pub returns-in_err-y : goal.returns-in_err-y
returns-in_err-y c = rw c.from_residual-in_err-y.ensures (none_first (Count ∷ Count ∷ []) (then_none c.in_ok-x.ensures c.in_err-y.ensures))

pub returns-in_err-w : goal.returns-in_err-w
returns-in_err-w c = rw c.from_residual-in_err-w.ensures (none_first (Count ∷ []) (then_none (then_reads c.in_ok-x.ensures c.in_ok-y.ensures) c.in_err-w.ensures))

pub returns-in_err-h : goal.returns-in_err-h
returns-in_err-h c = rw c.from_residual-in_err-h.ensures (then_none (then_reads (then_reads c.in_ok-x.ensures c.in_ok-y.ensures) c.in_ok-w.ensures) c.in_err-h.ensures)

pub returns : goal.returns
returns c =
    let x : c.in_ok-x.x ≡ to_z w32 (of_z w32 c.in_ok-x.x) = sym (search (rules, to_z-of_z)) in
    let y : c.in_ok-y.y ≡ to_z w32 (of_z w32 c.in_ok-y.y) = sym (search (rules, to_z-of_z)) in
    reads_same (then_reads (then_reads (then_reads c.in_ok-x.ensures c.in_ok-y.ensures) c.in_ok-w.ensures) c.in_ok-h.ensures) (same_rect x y (cc) (cc))
