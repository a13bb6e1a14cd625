use Rattle.std.proofs.Common.{◌≡◌, ◌-◌}
use Rattle.wire_num.specs.Cursor.{rest}
use Rattle.fast_path.specs.Events.{passed_events_at}
use Rattle.fast_path.proofs.events.check_events.Given as goal

-- the events that are left stand here
abbrev pub invariant-loop : goal.invariant-loop
invariant-loop l = (passed_events_at (l.count - l.counter) (rest l.cursor) ≡ passed_events_at l.count (rest l.fn.cursor)) × (l.cursor.bytes ≡ l.fn.cursor.bytes)
