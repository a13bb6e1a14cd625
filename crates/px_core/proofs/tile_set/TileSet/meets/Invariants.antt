use Rattle.px_core.specs.TileFlags.{tiles, box_tiles}
use Rattle.px_core.proofs.TileFlags.{NoneShared}
use Rattle.px_core.proofs.tile_set.TileSet.meets.Given as goal

abbrev pub invariant-loop-row : goal.invariant-loop-row
invariant-loop-row l = NoneShared (tiles l.self) (box_tiles l.initial.row l.row l.columns.from l.columns.end)
