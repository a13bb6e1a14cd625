use Rattle.std.specs.Prelude.{◌&&◌}
use Rattle.surface_parts.specs.Parts.{in_part, IsRepainted}
use Rattle.surface_parts.specs.Courses.{is_course_pixel}
use Rattle.tile_surface.specs.Cells.{picture_of}
use Rattle.tile_surface.specs.Ownership.{KeepsRest}
use Rattle.tile_surface.proofs.lines.draw_course.Given as goal

-- the first steps are drawn
abbrev pub invariant-loop-i : goal.invariant-loop-i
invariant-loop-i l = record {
  painted : IsRepainted l.fn.size (λ x y. in_part l.part x y && is_course_pixel l.course l.i x y) (λ x y. l.color) (picture_of l.fn.size l.initial.cells) (picture_of l.fn.size l.cells);
  kept : KeepsRest l.fn.size l.initial.cells l.cells;
}
