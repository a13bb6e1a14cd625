use Rattle.std.proofs.Common.{◌≡◌, map}
use Rattle.std.specs.Prelude.{◌&&◌}
use Rattle.surface_parts.specs.Parts.{in_part}
use Rattle.surface_parts.specs.Courses.{is_course_pixel}
use Rattle.tile_surface.specs.Cells.{cell_pixels}
use Rattle.tile_surface.specs.Needed.{OwnsPixels}
use Rattle.tile_surface.specs.Ownership.{StaysOwn}
use Rattle.tile_surface.proofs.lines.own_course.Given as goal

-- the tiles of the first steps are the surface's own
abbrev pub invariant-loop-i : goal.invariant-loop-i
invariant-loop-i l = record {
  same : map cell_pixels l.cells ≡ map cell_pixels l.initial.cells;
  stays : StaysOwn l.initial.cells l.cells;
  own : OwnsPixels l.cells (λ x y. in_part l.part x y && is_course_pixel l.course l.i x y);
}
