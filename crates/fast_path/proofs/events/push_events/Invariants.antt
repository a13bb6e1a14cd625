use Rattle.std.proofs.Common.{◌-◌}
use Rattle.wire_num.specs.Cursor.{rest}
use Rattle.fast_path.specs.Events.{events_at}
use Rattle.fast_path.proofs.OneByOne.{Pushed}
use Rattle.fast_path.proofs.events.push_events.Given as goal

-- the events that are left stand here, and the others were appended
abbrev pub invariant-loop : goal.invariant-loop
invariant-loop l = Pushed (events_at l.count (rest l.fn.cursor)) (events_at (l.count - l.counter) (rest l.cursor)) l.fn.out.items l.out.items
