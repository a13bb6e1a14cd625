use Rattle.std.proofs.Common.{◌≡◌, replicate}
use Rattle.tile_surface.specs.declared.cell.Cell.TheVariants.{Blank}
use Rattle.tile_surface.proofs.tiles.blank_cells.Given as goal

-- so many cells are blank
abbrev pub invariant-loop : goal.invariant-loop
invariant-loop l = l.cells.items ≡ replicate l.counter Blank
