use Rattle.px_core.specs.TileFlags.{tiles, row_tiles}
use Rattle.px_core.proofs.TileFlags.{NoneShared}
use Rattle.px_core.proofs.tile_set.is_row_met.Given as goal

abbrev pub invariant-loop-column : goal.invariant-loop-column
invariant-loop-column l = NoneShared (tiles l.flags) (row_tiles l.row l.fn.columns.from l.column)
