use Rattle.std.proofs.Common.{◌≡◌, length}
use Rattle.px_core.specs.TileFlags.{row_tiles}
use Rattle.px_core.proofs.TileFlags.{IsAdded}
use Rattle.px_core.proofs.tile_set.set_row.Given as goal

abbrev pub invariant-loop-column : goal.invariant-loop-column
invariant-loop-column l = record { added : IsAdded l.fn.flags (row_tiles l.row l.fn.columns.from l.column) l.flags; whole : length l.flags ≡ 1024 }
