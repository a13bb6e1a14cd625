use Rattle.std.specs.Prelude.{◌&&◌}
use Rattle.surface_parts.specs.Parts.{in_part, IsRepainted}
use Rattle.surface_parts.specs.Courses.{is_course_pixel}
use Rattle.surface_parts.proofs.line.draw_course.Given as goal

-- the first steps are drawn
abbrev pub invariant-loop-i : goal.invariant-loop-i
invariant-loop-i l = IsRepainted l.fn.size (λ x y. in_part l.part x y && is_course_pixel l.course l.i x y) (λ x y. l.color) l.initial.pixels l.pixels
