use Rattle.std.proofs.Common.{◌≡◌}
use Rattle.draw_ops.specs.Slots.{empty_slots}
use Rattle.surface_parts.proofs.slots.no_slots.Given as goal

-- so many slots stand
abbrev pub invariant-loop : goal.invariant-loop
invariant-loop g l = l.slots.items ≡ empty_slots l.counter
