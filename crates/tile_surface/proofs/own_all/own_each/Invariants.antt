use Rattle.std.proofs.Common.{◌≡◌, map, take}
use Rattle.tile_surface.specs.Cells.{cell_pixels}
use Rattle.tile_surface.specs.Later.{OwnsEach}
use Rattle.tile_surface.specs.Ownership.{StaysOwn}
use Rattle.tile_surface.proofs.own_all.own_each.Given as goal

-- the tiles of the drawings so far are the surface's own
abbrev pub invariant-loop-d : goal.invariant-loop-d
invariant-loop-d l = record {
  same : map cell_pixels l.cells ≡ map cell_pixels l.initial.cells;
  stays : StaysOwn l.initial.cells l.cells;
  own : OwnsEach l.fn.size l.cells (take l.d-index l.ds);
}
