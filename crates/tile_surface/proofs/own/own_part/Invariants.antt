use Rattle.std.proofs.Common.{◌≡◌, ℕ, ◌+◌, ◌*◌, ◌<◌, ◌≤◌, map}
use Rattle.tile_surface.specs.Cells.{cell_at, cell_pixels}
use Rattle.tile_surface.specs.Ownership.{IsOwn, StaysOwn}
use Rattle.tile_surface.proofs.own.own_part.Given as goal

-- the rows of tiles so far are the surface's own
abbrev pub invariant-loop-row : goal.invariant-loop-row
invariant-loop-row l = record {
  same : map cell_pixels l.cells ≡ map cell_pixels l.initial.cells;
  stays : StaysOwn l.initial.cells l.cells;
  own : (column row : ℕ) → l.left ≤ column → column < l.right → l.top ≤ row → row < l.row → IsOwn (cell_at l.cells (32 * row + column));
}
