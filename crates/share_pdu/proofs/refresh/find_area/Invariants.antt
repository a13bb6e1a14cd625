use Rattle.std.proofs.Common.{◌≡◌, ◌-◌}
use Rattle.std.specs.Prelude.{slice_get, IsOk}
use Rattle.wire_num.specs.Cursor.{rest}
use Rattle.share_pdu.specs.Bodies.{areas_at, areas_by}
use Rattle.share_pdu.proofs.refresh.find_area.Given as goal

-- the areas that are left stand here, and the one that is looked for is among them
abbrev pub invariant-loop : goal.invariant-loop
invariant-loop l =
    (slice_get (areas_by (areas_at (l.count - l.counter) (rest l.cursor))) l.left ≡ slice_get (areas_by (areas_at l.count (rest l.fn.cursor))) l.k)
    × IsOk (areas_at (l.count - l.counter) (rest l.cursor))
