use Rattle.std.proofs.Common.{◌≡◌, ℕ, ◌<◌, ◌≤◌, map}
use Rattle.tile_surface.specs.Cells.{cell_at, cell_pixels}
use Rattle.tile_surface.specs.Ownership.{IsOwn, StaysOwn}
use Rattle.tile_surface.proofs.own.own_tiles.Given as goal

-- the tiles so far are the surface's own
abbrev pub invariant-loop-tile : goal.invariant-loop-tile
invariant-loop-tile l = record {
  same : map cell_pixels l.cells ≡ map cell_pixels l.initial.cells;
  stays : StaysOwn l.initial.cells l.cells;
  own : (tile : ℕ) → l.from ≤ tile → tile < l.tile → IsOwn (cell_at l.cells tile);
}
