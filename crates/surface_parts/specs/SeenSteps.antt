-- Which steps of a line a part sees.
use Rattle.std.specs.Prelude.{◌≡◌, ℕ, ◌+◌, ◌≤◌, ◌<◌, ◌&&◌, false, if◌then◌else◌}
use Rattle.surface_parts.specs.declared.line.Course.{Course}
use Rattle.surface_parts.specs.declared.line.Steps.{Steps}
use Rattle.surface_parts.specs.declared.part.Part.{Part}
use Rattle.surface_parts.specs.Parts.{in_part}
use Rattle.surface_parts.specs.Courses.{apart, step, is_course_pixel}

-- how many pixels a part has the way that a course's longer side runs
abbrev pub side_along : Course → Part → ℕ
side_along c part = if c.is_steep then part.h else part.w

-- each step of a course at which the coordinate of the longer side lies between two bounds is one of some steps
pub record HasStepsBetween (c : Course) (low high : ℕ) (steps : Steps) : Type 0 where
  pub has : (n : ℕ) → n ≤ apart c.from_u c.to_u → low ≤ step c.from_u c.to_u n → step c.from_u c.to_u n < high → (steps.from ≤ n) × (n < steps.end)

-- no step before these has a pixel in a part, and none behind them
pub record AreSeenSteps (part : Part) (c : Course) (steps : Steps) : Type 0 where
  pub before : (x y : ℕ) → (in_part part x y && is_course_pixel c steps.from x y) ≡ false
  pub whole : (x y : ℕ) → (in_part part x y && is_course_pixel c steps.end x y) ≡ (in_part part x y && is_course_pixel c (apart c.from_u c.to_u + 1) x y)
