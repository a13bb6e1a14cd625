use Rattle.std.proofs.Common.{◌≡◌, length}
use Rattle.px_core.specs.TileFlags.{row_tiles}
use Rattle.session_core.proofs.MarkLemmas.{IsMarkedIn}
use Rattle.session_core.proofs.marks.note_row.Given as goal

abbrev pub invariant-loop-column : goal.invariant-loop-column
invariant-loop-column l = record { marked : IsMarkedIn l.fn.numbers (row_tiles l.row l.fn.columns.from l.column) l.number l.numbers; whole : length l.numbers ≡ 1024 }
