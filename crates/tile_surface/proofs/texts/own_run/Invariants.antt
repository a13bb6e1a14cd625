use Rattle.std.proofs.Common.{◌≡◌, ◌*◌, ◌≤◌, List, map, drop, pos, ◌+ℤ◌}
use Rattle.px_core.specs.Rectangle.{in_clip}
use Rattle.surface_parts.specs.Texts.{glyphs_held}
use Rattle.tile_surface.specs.declared.cell.Cell.{Cell}
use Rattle.tile_surface.specs.Cells.{cell_pixels}
use Rattle.tile_surface.specs.Needed.{OwnsRun}
use Rattle.tile_surface.specs.Ownership.{StaysOwn}
use Rattle.tile_surface.proofs.texts.own_run.Given as goal

-- the tiles of the glyphs so far are the surface's own, so those of the run are once the tiles of what is left are; and the pen went no
-- further than it may
abbrev pub invariant-loop-pair : goal.invariant-loop-pair
invariant-loop-pair l = record {
  same : map cell_pixels l.cells ≡ map cell_pixels l.initial.cells;
  stays : StaysOwn l.initial.cells l.cells;
  own : (new : List Cell) → StaysOwn l.cells new → OwnsRun l.fn.window.size new (in_clip l.fn.window.clip) (glyphs_held l.slots l.script.font) (l.script.x +ℤ pos l.moved) l.script.y (drop l.pair-index l.run)
      → OwnsRun l.fn.window.size new (in_clip l.fn.window.clip) (glyphs_held l.slots l.script.font) l.script.x l.script.y l.run;
  far : l.moved ≤ 255 * l.pair-index;
}
