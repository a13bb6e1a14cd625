use Rattle.std.proofs.Common.{◌≡◌, length}
use Rattle.px_core.specs.TileFlags.{box_tiles}
use Rattle.session_core.proofs.MarkLemmas.{IsMarkedIn}
use Rattle.session_core.proofs.marks.note_rows.Given as goal

abbrev pub invariant-loop-row : goal.invariant-loop-row
invariant-loop-row l = record { marked : IsMarkedIn l.fn.numbers (box_tiles l.initial.row l.row l.columns.from l.columns.end) l.number l.numbers; whole : length l.numbers ≡ 1024 }
