-- What a line paints, and the course that has its pixels.
use Rattle.std.specs.Prelude.{◌≡◌, ℕ, ◌+◌, pos, true}
use Rattle.px_core.specs.Rectangle.{in_rect}
use Rattle.rop3_core.specs.Palette.{session_colors}
use Rattle.draw_ops.specs.Formulas.{Painting, line_rect, line_area, solid}
use Rattle.surface_parts.specs.declared.line.Ends.{Ends}
use Rattle.surface_parts.specs.declared.line.Course.{Course}
use Rattle.surface_parts.specs.Courses.{apart, is_course_pixel}

abbrev pub lined : Ends → ℕ → Painting ℕ
lined e color = record { rect = line_rect e.x0 e.y0 e.x1 e.y1; area = line_area e.x0 e.y0 e.x1 e.y1; formula = solid session_colors color }

-- the pixels of a course are those of a line, which lie in the box of its ends
pub record IsCourseOf (e : Ends) (c : Course) : Type 0 where
  pub pixels : (x y : ℕ) → is_course_pixel c (apart c.from_u c.to_u + 1) x y ≡ line_area e.x0 e.y0 e.x1 e.y1 (pos x) (pos y)
  pub within : (x y : ℕ) → is_course_pixel c (apart c.from_u c.to_u + 1) x y ≡ true → in_rect (line_rect e.x0 e.y0 e.x1 e.y1) (pos x) (pos y) ≡ true
