use Rattle.std.proofs.Common.{◌∷◌, []}
use Rattle.script_rules.specs.Fields.Field.{Count}
use Rattle.script_lines.proofs.Fields.{then_reads, then_none, none_first}
use Rattle.script_lines.proofs.load.next_image.Goals as goal

pub returns-in_err-slot : goal.returns-in_err-slot
returns-in_err-slot c = rw c.from_residual.ensures (none_first (Count ∷ Count ∷ []) c.in_err-slot.ensures)

pub returns-in_err-w : goal.returns-in_err-w
returns-in_err-w c = rw c.from_residual-in_err-w.ensures (none_first (Count ∷ []) (then_none c.in_ok-slot.ensures c.in_err-w.ensures))

pub returns-in_err-h : goal.returns-in_err-h
returns-in_err-h c = rw c.from_residual-in_err-h.ensures (then_none (then_reads c.in_ok-slot.ensures c.in_ok-w.ensures) c.in_err-h.ensures)

pub returns : goal.returns
returns c = then_reads (then_reads c.in_ok-slot.ensures c.in_ok-w.ensures) c.in_ok-h.ensures
