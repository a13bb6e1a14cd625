use Rattle.std.proofs.Common.{◌≡◌, ◌-◌, ◌++◌}
use Rattle.px_core.specs.Tiles.{either_tiles, tiles_in}
use Rattle.px_core.specs.TileFlags.{tiles}
use Rattle.frame_plan.proofs.TileList.{tiles_from}
use Rattle.frame_plan.proofs.tiles.tiles_due.Given as goal

-- with the tiles that are left they are all
abbrev pub invariant-loop-tile : goal.invariant-loop-tile
invariant-loop-tile l =
    l.due.items ++ tiles_from l.size (either_tiles (tiles l.dirty) (tiles l.asked)) (l.tile-end - l.tile) l.tile ≡ tiles_in l.size (either_tiles (tiles l.dirty) (tiles l.asked))
