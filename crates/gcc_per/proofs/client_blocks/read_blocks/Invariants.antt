use Rattle.std.proofs.Common.{◌≡◌, length}
use Rattle.wire_num.specs.Cursor.{rest}
use Rattle.gcc_per.proofs.Loop.{Left}
use Rattle.gcc_per.proofs.client_blocks.read_blocks.Given as goal

abbrev pub invariant-loop-cursor : goal.invariant-loop-cursor
invariant-loop-cursor l = Left l.found (rest l.cursor) (rest l.fn.cursor) × (l.cursor.bytes ≡ l.fn.cursor.bytes)

abbrev pub decreases-loop-cursor : goal.decreases-loop-cursor
decreases-loop-cursor l = length (rest l.cursor)
