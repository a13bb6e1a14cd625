use Rattle.std.proofs.Common.{◌≡◌, ℕ, List, Bool, length}
use Rattle.wire_num.specs.Cursor.{rest}
use Rattle.order_fields.specs.OrderTable.{FitKinds}
use Rattle.order_fields.specs.OrderStream.{values_at}
use Rattle.order_read.proofs.ValuesRead.{from_place}
use Rattle.order_read.proofs.fields.read_values.Given as goal

-- the fields that are left stand here, behind the values that were read
abbrev pub invariant-loop-i : goal.invariant-loop-i
invariant-loop-i l =
    ((counted : Bool) (bytes : List ℕ) → values_at l.kinds counted l.flags l.delta l.fn.values bytes (rest l.fn.cursor) ≡ from_place l.i l.kinds counted l.left l.delta l.values bytes (rest l.cursor))
    × (l.cursor.bytes ≡ l.fn.cursor.bytes) × FitKinds l.kinds l.values × (length l.values ≡ length l.kinds)
