use Rattle.std.proofs.Common.{◌≡◌, ◌-◌}
use Rattle.wire_num.specs.Cursor.{rest}
use Rattle.caps_sets.specs.CapabilitySets.{before_sets}
use Rattle.caps_sets.specs.ConfirmActive.{sets_at}
use Rattle.caps_sets.proofs.confirm_active.read_sets.Given as goal

-- the sets that are left stand here
abbrev pub invariant-loop : goal.invariant-loop
invariant-loop l =
    (sets_at (l.count - l.counter) l.sets (rest l.cursor) ≡ sets_at l.count (before_sets l.fn.depth) (rest l.fn.cursor)) × (l.cursor.bytes ≡ l.fn.cursor.bytes)
