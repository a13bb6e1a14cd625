use Rattle.std.proofs.Common.{◌≡◌, length}
use Rattle.px_core.specs.TileFlags.{box_tiles}
use Rattle.px_core.proofs.TileFlags.{IsAdded}
use Rattle.px_core.proofs.tile_set.TileSet.add.Given as goal

abbrev pub invariant-loop-row : goal.invariant-loop-row
invariant-loop-row l = record { added : IsAdded l.fn.self (box_tiles l.initial.row l.row l.columns.from l.columns.end) l.self-inside.flags; whole : length l.self-inside.flags ≡ 1024 }
