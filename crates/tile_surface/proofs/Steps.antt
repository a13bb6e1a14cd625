-- Lines into tiles, one step after another: what a step needs and what it leaves.
use Rattle.std.proofs.Common.{◌≡◌, ℕ, ◌+◌, ◌≤◌, ◌<◌, List, Bool, true, false, refl, ap, sym, ◌∙◌, arith}
use Rattle.std.specs.Prelude.{◌&&◌, ◌==◌, nat_lt, pos}
use Rattle.std.proofs.lemmas.Bool.{and_parts, and_from}
use Rattle.std.proofs.lemmas.Bool.Decides.{nat_tests}
use Rattle.px_core.specs.declared.surface.Size.{Size}
use Rattle.px_core.specs.Picture.{Area, both}
use Rattle.px_core.specs.Rectangle.{in_rect, whole}
use Rattle.draw_ops.specs.Formulas.{line_area}
use Rattle.surface_parts.specs.declared.part.Part.{Part}
use Rattle.surface_parts.specs.declared.line.Course.{Course}
use Rattle.surface_parts.specs.declared.line.Ends.{Ends}
use Rattle.surface_parts.specs.declared.line.Steps.{Steps}
use Rattle.surface_parts.specs.Parts.{in_part, IsInside, Pixels}
use Rattle.surface_parts.specs.Courses.{apart, step, rise, by_steepness, is_course_place, is_course_pixel, is_dot}
use Rattle.surface_parts.specs.Lined.{IsCourseOf}
use Rattle.surface_parts.specs.SeenSteps.{AreSeenSteps}
use Rattle.surface_parts.proofs.Dots.{dot_is_step, other_is_no_step}
use Rattle.tile_surface.specs.declared.cell.Cell.{Cell}
use Rattle.tile_surface.specs.Needed.{OwnsPixels}
use Rattle.tile_surface.specs.Ownership.{IsOwnAt, OwnsArea, StaysOwn}

pub pixels_still : (old new : List Cell) (pixels : Pixels) → StaysOwn old new → OwnsPixels old pixels → OwnsPixels new pixels
pixels_still old new pixels stays owns = record { own = λ x y is. stays.own _ (owns.own x y is) }

-- ---- one more step

more_steps : (c : Course) (m n u v : ℕ) → m ≤ n → is_course_place c m u v ≡ true → is_course_place c n u v ≡ true
more_steps c m n u v le h = let p = and_parts (nat_lt (apart u c.from_u) m) _ h in and_from (nat_lt (apart u c.from_u) n) _ (later (apart u c.from_u) m n le p.0) p.1
  where
    later : (a m n : ℕ) → m ≤ n → nat_lt a m ≡ true → nat_lt a n ≡ true
    later a m n le h = grind (arith, nat_tests, le, h)

module _ (c : Course) (i x y : ℕ) (within : i ≤ apart c.from_u c.to_u) where
  dot_of_course : (steep : Bool) → by_steepness steep (λ a b. (a == step c.from_u c.to_u i) && (b == step c.from_v c.to_v (rise c i))) x y ≡ true → by_steepness steep (is_course_place c (apart c.from_u c.to_u + 1)) x y ≡ true
  dot_of_course false h = more_steps c (i + 1) (apart c.from_u c.to_u + 1) (x + 4096) (y + 4096) (omega (arith, within)) (dot_is_step c i (x + 4096) (y + 4096) within h)
  dot_of_course true h = more_steps c (i + 1) (apart c.from_u c.to_u + 1) (y + 4096) (x + 4096) (omega (arith, within)) (dot_is_step c i (y + 4096) (x + 4096) within h)

  step_before : (steep : Bool) → by_steepness steep (λ a b. (a == step c.from_u c.to_u i) && (b == step c.from_v c.to_v (rise c i))) x y ≡ false → by_steepness steep (is_course_place c i) x y ≡ by_steepness steep (is_course_place c (i + 1)) x y
  step_before false h = other_is_no_step c i (x + 4096) (y + 4096) within h
  step_before true h = other_is_no_step c i (y + 4096) (x + 4096) within h

-- a step's pixel is one of the line
pub step_is_own : (cells : List Cell) (part : Part) (c : Course) (i : ℕ) → i ≤ apart c.from_u c.to_u → OwnsPixels cells (λ x y. in_part part x y && is_course_pixel c (apart c.from_u c.to_u + 1) x y)
    → OwnsPixels cells (λ x y. in_part part x y && is_dot c.is_steep (step c.from_u c.to_u i) (step c.from_v c.to_v (rise c i)) x y)
step_is_own cells part c i within owns = record {
  own = λ x y is.
      let p = and_parts (in_part part x y) (is_dot c.is_steep (step c.from_u c.to_u i) (step c.from_v c.to_v (rise c i)) x y) is in
      owns.own x y (and_from (in_part part x y) (is_course_pixel c (apart c.from_u c.to_u + 1) x y) p.0 (dot_of_course c i x y within c.is_steep p.1));
}

-- the tiles of the steps before and of this one's pixel are the surface's own
pub step_owned : (cells : List Cell) (part : Part) (c : Course) (i : ℕ) → i ≤ apart c.from_u c.to_u → OwnsPixels cells (λ x y. in_part part x y && is_course_pixel c i x y)
    → OwnsPixels cells (λ x y. in_part part x y && is_dot c.is_steep (step c.from_u c.to_u i) (step c.from_v c.to_v (rise c i)) x y)
    → OwnsPixels cells (λ x y. in_part part x y && is_course_pixel c (i + 1) x y)
step_owned cells part c i within before dot = record {
  own = λ x y is.
      let p = and_parts (in_part part x y) (is_course_pixel c (i + 1) x y) is in by x y p.0 p.1 (is_dot c.is_steep (step c.from_u c.to_u i) (step c.from_v c.to_v (rise c i)) x y) refl;
}
  where
    by : (x y : ℕ) → in_part part x y ≡ true → is_course_pixel c (i + 1) x y ≡ true → (b : Bool) → is_dot c.is_steep (step c.from_u c.to_u i) (step c.from_v c.to_v (rise c i)) x y ≡ b → IsOwnAt cells x y
    by x y inside is true h = dot.own x y (and_from (in_part part x y) (is_dot c.is_steep (step c.from_u c.to_u i) (step c.from_v c.to_v (rise c i)) x y) inside h)
    by x y inside is false h = before.own x y (and_from (in_part part x y) (is_course_pixel c i x y) inside (step_before c i x y within c.is_steep h ∙ is))

-- ---- the steps that a part sees

module _ (cells : List Cell) (part : Part) (c : Course) (steps : Steps) (seen : AreSeenSteps part c steps) where
  pub owned_before : OwnsPixels cells (λ x y. in_part part x y && is_course_pixel c steps.from x y)
  owned_before = record { own = λ x y is. absurd (cc (sym (seen.before x y) ∙ is)) }

  pub owned_whole : (i : ℕ) → i ≡ steps.end → OwnsPixels cells (λ x y. in_part part x y && is_course_pixel c i x y) → OwnsPixels cells (λ x y. in_part part x y && is_course_pixel c (apart c.from_u c.to_u + 1) x y)
  owned_whole i last owns = record { own = λ x y is. owns.own x y (ap (λ n. in_part part x y && is_course_pixel c n x y) last ∙ seen.whole x y ∙ is) }

-- ---- the whole line

in_whole : (size : Size) (x y : ℕ) → x < size.w → y < size.h → in_rect (whole size) (pos x) (pos y) ≡ true
in_whole size x y left above = grind (arith, nat_tests, left, above)

module _ (size : Size) (clip : Area) (e : Ends) (c : Course) (cells : List Cell) (is : IsCourseOf e c) where
  -- the pixels that are seen
  pub line_pixels_own : (part : Part) → IsInside size part → ((x y : ℕ) → x < size.w → y < size.h → in_part part x y ≡ (clip (pos x) (pos y) && in_rect (whole size) (pos x) (pos y)))
      → OwnsArea size cells (both clip (line_area e.x0 e.y0 e.x1 e.y1)) → OwnsPixels cells (λ x y. in_part part x y && is_course_pixel c (apart c.from_u c.to_u + 1) x y)
  line_pixels_own part inside seen owns = record {
    own = λ x y h.
        let p = and_parts (in_part part x y) (is_course_pixel c (apart c.from_u c.to_u + 1) x y) h in
        let left : x < size.w = omega (arith, in_columns x y p.0, inside.columns) in
        let above : y < size.h = omega (arith, in_rows x y p.0, inside.rows) in
        let q = and_parts (clip (pos x) (pos y)) (in_rect (whole size) (pos x) (pos y)) (sym (seen x y left above) ∙ p.0) in
        owns.own x y left above (and_from (clip (pos x) (pos y)) (line_area e.x0 e.y0 e.x1 e.y1 (pos x) (pos y)) q.0 (sym (is.pixels x y) ∙ p.1));
  }
    where
      in_columns : (x y : ℕ) → in_part part x y ≡ true → x < part.x + part.w
      in_columns x y h = grind (arith, nat_tests, h)

      in_rows : (x y : ℕ) → in_part part x y ≡ true → y < part.y + part.h
      in_rows x y h = grind (arith, nat_tests, h)

  pub line_owned : (part : Part) → ((x y : ℕ) → x < size.w → y < size.h → in_part part x y ≡ (clip (pos x) (pos y) && in_rect (whole size) (pos x) (pos y)))
      → OwnsPixels cells (λ x y. in_part part x y && is_course_pixel c (apart c.from_u c.to_u + 1) x y) → OwnsArea size cells (both clip (line_area e.x0 e.y0 e.x1 e.y1))
  line_owned part seen owns = record {
    own = λ x y left above h.
        let p = and_parts (clip (pos x) (pos y)) (line_area e.x0 e.y0 e.x1 e.y1 (pos x) (pos y)) h in
        let inside = seen x y left above ∙ and_from (clip (pos x) (pos y)) (in_rect (whole size) (pos x) (pos y)) p.0 (in_whole size x y left above) in
        owns.own x y (and_from (in_part part x y) (is_course_pixel c (apart c.from_u c.to_u + 1) x y) inside (is.pixels x y ∙ p.1));
  }

-- nothing is seen
pub none_owned : (size : Size) (clip area : Area) (cells : List Cell) → ((x y : ℕ) → x < size.w → y < size.h → false ≡ (clip (pos x) (pos y) && in_rect (whole size) (pos x) (pos y))) → OwnsArea size cells (both clip area)
none_owned size clip area cells none = record {
  own = λ x y left above h.
      let p = and_parts (clip (pos x) (pos y)) (area (pos x) (pos y)) h in
      absurd (cc (none x y left above ∙ and_from (clip (pos x) (pos y)) (in_rect (whole size) (pos x) (pos y)) p.0 (in_whole size x y left above)));
}
