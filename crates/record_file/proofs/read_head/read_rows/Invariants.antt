use Rattle.std.proofs.Common.{◌≡◌, ◌-◌, []}
use Rattle.wire_num.specs.Cursor.{rest}
use Rattle.session_core.specs.Heads.{rows_of}
use Rattle.record_rules.specs.Reading.{rows_at}
use Rattle.record_file.proofs.read_head.read_rows.Given as goal

-- the rows that are left stand here, behind those that were read
abbrev pub invariant-loop : goal.invariant-loop
invariant-loop l = (rows_at (l.count - l.counter) (rows_of l.rows.items) (rest l.cursor) ≡ rows_at l.count [] (rest l.fn.cursor)) × (l.cursor.bytes ≡ l.fn.cursor.bytes)
