use Rattle.std.proofs.Common.{◌≡◌}
use Rattle.draw_ops.specs.Slots.{empty_slots}
use Rattle.pointer_share.proofs.view.no_cells.Given as goal

-- so many cells stand
abbrev pub invariant-loop : goal.invariant-loop
invariant-loop l = l.cells.items ≡ empty_slots l.counter
