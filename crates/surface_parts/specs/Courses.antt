-- Lines by steps along their longer side. Coordinates are shifted by 4,096.
use Rattle.std.specs.Prelude.{ℕ, ◌+◌, ◌-◌, ◌*◌, ◌/◌, ◌==◌, ◌≤◌, ◌<◌, nat_le, nat_lt, Bool, true, false, ◌&&◌, if◌then◌else◌}
use Rattle.surface_parts.specs.declared.line.Course.{Course}

-- how far two coordinates are apart
abbrev pub apart : ℕ → ℕ → ℕ
apart a b = (a - b) + (b - a)

-- so many steps from one coordinate towards another
abbrev pub step : ℕ → ℕ → ℕ → ℕ
step from to n = if nat_le from to then from + n else from - n

-- how far the second coordinate has moved after so many steps
abbrev pub rise : Course → ℕ → ℕ
rise c i = (2 * (i * apart c.from_v c.to_v) + apart c.from_u c.to_u) / (2 * apart c.from_u c.to_u)

-- whether (u, v) is the pixel of one of the first n steps
abbrev pub is_course_place : Course → ℕ → ℕ → ℕ → Bool
is_course_place c n u v = nat_lt (apart u c.from_u) n
    && ((step c.from_u c.to_u (apart u c.from_u) == u) && (step c.from_v c.to_v (rise c (apart u c.from_u)) == v))

abbrev pub by_steepness : Bool → (ℕ → ℕ → Bool) → ℕ → ℕ → Bool
by_steepness false test x y = test (x + 4096) (y + 4096)
by_steepness true test x y = test (y + 4096) (x + 4096)

-- whether a pixel of the surface is one of the first n steps
abbrev pub is_course_pixel : Course → ℕ → ℕ → ℕ → Bool
is_course_pixel c n x y = by_steepness c.is_steep (is_course_place c n) x y

-- whether a pixel of the surface stands at a place
abbrev pub is_dot : Bool → ℕ → ℕ → ℕ → ℕ → Bool
is_dot is_steep u v x y = by_steepness is_steep (λ a b. (a == u) && (b == v)) x y

-- a line that is longer, or as long, in its first coordinate, between ends that are near the surface
pub record IsCourse (c : Course) : Type 0 where
  pub from_u : c.from_u ≤ 8191
  pub from_v : c.from_v ≤ 8191
  pub to_u : c.to_u ≤ 8191
  pub to_v : c.to_v ≤ 8191
  pub some : 0 < apart c.from_u c.to_u
  pub longer : apart c.from_v c.to_v ≤ apart c.from_u c.to_u
