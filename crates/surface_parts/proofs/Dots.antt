-- Lines, one pixel after another.
use Rattle.std.proofs.Common.{◌≡◌, ℕ, ◌+◌, ◌*◌, ◌-◌, ◌≤◌, ◌<◌, List, length, get_or, set, Bool, true, false, refl, ap, sym, ◌∙◌, arith, get_or-set_same, get_or-set_other}
use Rattle.std.specs.Prelude.{◌&&◌, ◌==◌, nat_le, nat_lt, slice_set, if◌then◌else◌}
use Rattle.std.proofs.lemmas.Nat.{same_from_place}
use Rattle.std.proofs.lemmas.List.{length-set}
use Rattle.std.proofs.Math.Nat.{mul_comm}
use Rattle.std.proofs.lemmas.Bool.{and_parts, and_from}
use Rattle.std.proofs.lemmas.Bool.Decides.{nat_tests}
use Rattle.px_core.specs.declared.surface.Size.{Size}
use Rattle.px_core.specs.Picture.{pixel_count, pixel_at}
use Rattle.px_core.proofs.Pictures.{item-get_or}
use Rattle.surface_parts.specs.declared.part.Part.{Part}
use Rattle.surface_parts.specs.declared.line.Course.{Course}
use Rattle.surface_parts.specs.Parts.{in_part, IsInside, IsRepainted}
use Rattle.surface_parts.specs.Courses.{apart, step, rise, is_course_place, by_steepness, is_course_pixel, is_dot}
use Rattle.surface_parts.proofs.Repaint.{under_true, under_false, and_false, painted_twice, added, row_before}

-- ---- one pixel

module _ (size : Size) (part : Part) (x y color : ℕ) (ps : List ℕ) (e : length ps ≡ pixel_count size) (inside : IsInside size part)
    (left : part.x + 4096 ≤ x) (right : x < part.x + 4096 + part.w) (above : part.y + 4096 ≤ y) (below : y < part.y + 4096 + part.h) where
  pub pixel_fits : size.w * (y - 4096) + (x - 4096) < length ps
  pixel_fits = let before = row_before size.w (x - 4096) (y - 4096) size.h (omega (arith, left, right, inside.columns)) (omega (arith, above, below, inside.rows)) in omega (arith, before, e)

  at_pixel : (u v : ℕ) (s t : Bool) → u < size.w → (u + 4096 == x) ≡ s → (v + 4096 == y) ≡ t
      → get_or (set ps (size.w * (y - 4096) + (x - 4096)) color) (size.w * v + u) 0 ≡ (if in_part part u v && (s && t) then color else get_or ps (size.w * v + u) 0)
  at_pixel u v true true l es et =
      let eu : u ≡ x - 4096 = grind (arith, nat_tests, es) in
      let ev : v ≡ y - 4096 = grind (arith, nat_tests, et) in
      let here : size.w * v + u ≡ size.w * (y - 4096) + (x - 4096) = ap (λ n. size.w * n + u) ev ∙ ap (λ n. size.w * (y - 4096) + n) eu in
      let fits = pixel_fits in
      let seen : in_part part u v ≡ true = grind (arith, nat_tests, eu, ev, left, right, above, below) in
      ap (λ k. get_or (set ps (size.w * (y - 4096) + (x - 4096)) color) k 0) here ∙ get_or-set_same ps (size.w * (y - 4096) + (x - 4096)) color 0 fits
      ∙ under_true (in_part part u v && true) color (get_or ps (size.w * v + u) 0) (and_from (in_part part u v) true seen refl)
  at_pixel u v true false l es et = get_or-set_other ps (size.w * (y - 4096) + (x - 4096)) (size.w * v + u) color 0 (λ same. other same)
      ∙ under_false (in_part part u v && false) color (get_or ps (size.w * v + u) 0) (and_false (in_part part u v) false refl)
    where
      other : size.w * v + u ≡ size.w * (y - 4096) + (x - 4096) → ⊥
      other same = let eq : v * size.w + u ≡ (y - 4096) * size.w + (x - 4096) = rw (mul_comm v size.w, mul_comm (y - 4096) size.w) same in
          let both = same_from_place v u (y - 4096) (x - 4096) size.w l (omega (arith, left, right, inside.columns)) eq in grind (arith, nat_tests, both.0, et, above)
  at_pixel u v false t l es et = get_or-set_other ps (size.w * (y - 4096) + (x - 4096)) (size.w * v + u) color 0 (λ same. other same)
      ∙ under_false (in_part part u v && false) color (get_or ps (size.w * v + u) 0) (and_false (in_part part u v) false refl)
    where
      other : size.w * v + u ≡ size.w * (y - 4096) + (x - 4096) → ⊥
      other same = let eq : v * size.w + u ≡ (y - 4096) * size.w + (x - 4096) = rw (mul_comm v size.w, mul_comm (y - 4096) size.w) same in
          let both = same_from_place v u (y - 4096) (x - 4096) size.w l (omega (arith, left, right, inside.columns)) eq in grind (arith, nat_tests, both.1, es, left)

  pub pixel_drawn : IsRepainted size (λ u v. in_part part u v && ((u + 4096 == x) && (v + 4096 == y))) (λ u v. color) ps (slice_set ps (size.w * (y - 4096) + (x - 4096)) color)
  pixel_drawn = record {
    sized = length-set ps (size.w * (y - 4096) + (x - 4096)) color;
    pixel = λ u v l a. item-get_or (set ps (size.w * (y - 4096) + (x - 4096)) color) (size.w * v + u) 0 ∙ at_pixel u v (u + 4096 == x) (v + 4096 == y) l refl refl
        ∙ ap (λ o. if in_part part u v && ((u + 4096 == x) && (v + 4096 == y)) then color else o) (sym (item-get_or ps (size.w * v + u) 0));
  }

-- ---- one more step

apart_step : (from to i : ℕ) → i ≤ apart from to → apart (step from to i) from ≡ i
apart_step from to i h = by (nat_le from to) refl
  where
    by : (t : Bool) → nat_le from to ≡ t → apart (if t then from + i else from - i) from ≡ i
    by true e = omega arith
    by false e = let lt : to < from = grind (arith, nat_tests, e) in omega (arith, lt, h)

eq_is : (a b : ℕ) → (a == b) ≡ true → a ≡ b
eq_is a b h = grind (arith, nat_tests, h)

eq_from : (a b : ℕ) → a ≡ b → (a == b) ≡ true
eq_from a b h = grind (arith, nat_tests, h)

eq_turned : (a b : ℕ) → (a == b) ≡ (b == a)
eq_turned a b = grind (arith, nat_tests)

module _ (c : Course) (i u v : ℕ) (within : i ≤ apart c.from_u c.to_u) where
  pub dot_is_step : ((u == step c.from_u c.to_u i) && (v == step c.from_v c.to_v (rise c i))) ≡ true → is_course_place c (i + 1) u v ≡ true
  dot_is_step h =
      let p = and_parts (u == step c.from_u c.to_u i) (v == step c.from_v c.to_v (rise c i)) h in
      let eu = eq_is u (step c.from_u c.to_u i) p.0 in
      let ev = eq_is v (step c.from_v c.to_v (rise c i)) p.1 in
      let a : apart u c.from_u ≡ i = ap (λ n. apart n c.from_u) eu ∙ apart_step c.from_u c.to_u i within in
      let lt : nat_lt i (i + 1) ≡ true = grind (arith, nat_tests) in
      ap (λ n. nat_lt n (i + 1) && ((step c.from_u c.to_u n == u) && (step c.from_v c.to_v (rise c n) == v))) a
      ∙ and_from (nat_lt i (i + 1)) _ lt (and_from (step c.from_u c.to_u i == u) (step c.from_v c.to_v (rise c i) == v) (eq_from (step c.from_u c.to_u i) u (sym eu)) (eq_from (step c.from_v c.to_v (rise c i)) v (sym ev)))

  pub other_is_no_step : ((u == step c.from_u c.to_u i) && (v == step c.from_v c.to_v (rise c i))) ≡ false → is_course_place c i u v ≡ is_course_place c (i + 1) u v
  other_is_no_step h = by (apart u c.from_u == i) refl
    where
      by : (t : Bool) → (apart u c.from_u == i) ≡ t → is_course_place c i u v ≡ is_course_place c (i + 1) u v
      by true e = let a = eq_is (apart u c.from_u) i e in
          let none : ((step c.from_u c.to_u i == u) && (step c.from_v c.to_v (rise c i) == v)) ≡ false
          = ap (λ b. b && (step c.from_v c.to_v (rise c i) == v)) (eq_turned (step c.from_u c.to_u i) u) ∙ ap (λ b. (u == step c.from_u c.to_u i) && b) (eq_turned (step c.from_v c.to_v (rise c i)) v) ∙ h in
          let test : ((step c.from_u c.to_u (apart u c.from_u) == u) && (step c.from_v c.to_v (rise c (apart u c.from_u)) == v)) ≡ false
          = ap (λ n. (step c.from_u c.to_u n == u) && (step c.from_v c.to_v (rise c n) == v)) a ∙ none in
          and_false (nat_lt (apart u c.from_u) i) _ test ∙ sym (and_false (nat_lt (apart u c.from_u) (i + 1)) _ test)
      by false e = ap (λ b. b && ((step c.from_u c.to_u (apart u c.from_u) == u) && (step c.from_v c.to_v (rise c (apart u c.from_u)) == v))) (less (apart u c.from_u) i e)
        where
          less : (a n : ℕ) → (a == n) ≡ false → nat_lt a n ≡ nat_lt a (n + 1)
          less a n h = grind (arith, nat_tests, h)

module _ (c : Course) (i x y : ℕ) (within : i ≤ apart c.from_u c.to_u) where
  new_pixel : (steep : Bool) → by_steepness steep (λ a b. (a == step c.from_u c.to_u i) && (b == step c.from_v c.to_v (rise c i))) x y ≡ true → by_steepness steep (is_course_place c (i + 1)) x y ≡ true
  new_pixel false h = dot_is_step c i (x + 4096) (y + 4096) within h
  new_pixel true h = dot_is_step c i (y + 4096) (x + 4096) within h

  old_pixel : (steep : Bool) → by_steepness steep (λ a b. (a == step c.from_u c.to_u i) && (b == step c.from_v c.to_v (rise c i))) x y ≡ false → by_steepness steep (is_course_place c i) x y ≡ by_steepness steep (is_course_place c (i + 1)) x y
  old_pixel false h = other_is_no_step c i (x + 4096) (y + 4096) within h
  old_pixel true h = other_is_no_step c i (y + 4096) (x + 4096) within h

-- the dot of the next step
pub one_more_step : (size : Size) (part : Part) (c : Course) (i color : ℕ) (old cur new : List ℕ) → i ≤ apart c.from_u c.to_u
    → IsRepainted size (λ x y. in_part part x y && is_course_pixel c i x y) (λ x y. color) old cur
    → IsRepainted size (λ x y. in_part part x y && is_dot c.is_steep (step c.from_u c.to_u i) (step c.from_v c.to_v (rise c i)) x y) (λ x y. color) cur new
    → IsRepainted size (λ x y. in_part part x y && is_course_pixel c (i + 1) x y) (λ x y. color) old new
one_more_step size part c i color old cur new within done dot = painted_twice size _ _ _ (λ x y. color) (λ x y. color) (λ x y. color) old cur new done dot (λ x y left above.
    added (in_part part x y) (is_dot c.is_steep (step c.from_u c.to_u i) (step c.from_v c.to_v (rise c i)) x y) (is_course_pixel c i x y) (is_course_pixel c (i + 1) x y) color color (pixel_at size old 0 x y)
    (λ p d. refl) (new_pixel c i x y within c.is_steep) (old_pixel c i x y within c.is_steep))
