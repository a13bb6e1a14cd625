use Rattle.std.proofs.Common.{◌≡◌, ◌-◌, ◌++◌}
use Rattle.std.specs.Prelude.{IsOk}
use Rattle.wire_num.specs.Cursor.{rest}
use Rattle.share_pdu.specs.Bodies.{areas_at, areas_by}
use Rattle.conn_core.proofs.found.push_areas.Given as goal

-- what was appended, and the areas that are left, are all of them
abbrev pub invariant-loop : goal.invariant-loop
invariant-loop l =
    (l.areas.items ++ areas_by (areas_at (l.count - l.counter) (rest l.cursor)) ≡ l.fn.areas.items ++ areas_by (areas_at l.count (rest l.fn.cursor)))
    × IsOk (areas_at (l.count - l.counter) (rest l.cursor))
