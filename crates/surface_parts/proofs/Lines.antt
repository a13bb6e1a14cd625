-- The pixels of a line are those of its course.
use Rattle.std.proofs.Common.{◌≡◌, ℕ, zero, suc, ◌+◌, ◌*◌, ◌/◌, ◌-◌, ◌≤◌, ◌<◌, List, length, Bool, true, false, refl, ap, sym, ◌∙◌, arith}
use Rattle.std.specs.Prelude.{◌&&◌, ◌||◌, not, ◌==◌, nat_le, nat_lt, ℤ, pos, negsuc, ◌+ℤ◌, ◌-ℤ◌, int_le, nat_abs, if◌then◌else◌, None}
use Rattle.std.specs.Int.{int_min}
use Rattle.std.specs.Ordering.{int_eq}
use Rattle.std.proofs.lemmas.Int.{ints, clamps}
use Rattle.std.proofs.lemmas.Nat.{mul-le, div_below}
use Rattle.std.proofs.lemmas.Bool.{and_from, and_parts}
use Rattle.std.proofs.lemmas.Bool.Decides.{nat_tests, Decides-int_eq}
use Rattle.px_core.specs.declared.surface.Size.{Size}
use Rattle.px_core.specs.Picture.{Area, pixel_count, pixel_at, where_chosen}
use Rattle.px_core.specs.Rectangle.{within, in_rect, whole}
use Rattle.px_core.proofs.Stretches.{within-from, same_test}
use Rattle.draw_ops.specs.Fits.{is_corner, broken_if, line_rule}
use Rattle.draw_ops.specs.Formulas.{towards, is_on_long_line, line_rect, solid, picture_after}
use Rattle.rop3_core.specs.Palette.{session_colors}
use Rattle.surface_parts.specs.declared.part.Part.{Part}
use Rattle.surface_parts.specs.declared.line.Ends.{Ends}
use Rattle.surface_parts.specs.declared.line.Course.{Course}
use Rattle.surface_parts.specs.Parts.{in_part, IsRepainted}
use Rattle.surface_parts.specs.Courses.{apart, step, rise, is_course_place, is_course_pixel, IsCourse}
use Rattle.surface_parts.specs.Lined.{lined, IsCourseOf}
use Rattle.surface_parts.proofs.Repaint.{none_painted, and_false}
use Rattle.surface_parts.proofs.Paintings.{painted_is}

-- ---- shifted coordinates

pub record IsShifted (z : ℤ) (n : ℕ) : Type 0 where
  pub value : pos n ≡ z +ℤ pos 4096

abs_is : (z : ℤ) (a b : ℕ) → z ≡ pos a -ℤ pos b → nat_abs z ≡ apart a b
abs_is (pos n) a b e = omega (arith, ints, e)
abs_is (negsuc n) a b e = omega (arith, ints, e)

int_same : (a b : ℤ) → int_eq a b ≡ true → a ≡ b
int_same a b h = (Decides-int_eq a b).0 h

int_test : (a b : ℤ) (m n : ℕ) → (a ≡ b → m ≡ n) → (m ≡ n → a ≡ b) → int_eq a b ≡ (m == n)
int_test a b m n f g = same_test (int_eq a b) (m == n) (λ h. eq (f (int_same a b h))) (λ h. (Decides-int_eq a b).1 (g (back h)))
  where
    eq : m ≡ n → (m == n) ≡ true
    eq e = grind (arith, nat_tests, e)

    back : (m == n) ≡ true → m ≡ n
    back e = grind (arith, nat_tests, e)

le_test : (a b : ℤ) (m n : ℕ) → IsShifted a m → IsShifted b n → int_le a b ≡ nat_le m n
le_test a b m n f g = by (int_le a b) (nat_le m n) refl refl
  where
    by : (s t : Bool) → int_le a b ≡ s → nat_le m n ≡ t → s ≡ t
    by true true es et = refl
    by false false es et = refl
    by true false es et = let lt : n < m = grind (arith, nat_tests, et) in absurd (omega (arith, ints, es, f.value, g.value, lt))
    by false true es et = let le : m ≤ n = grind (arith, nat_tests, et) in absurd (omega (arith, ints, es, f.value, g.value, le))

toward_is : (a b : ℤ) (m n k w : ℕ) → IsShifted a m → IsShifted b n → k ≤ apart m n → int_eq (towards a b k) (pos w) ≡ (step m n k == w + 4096)
toward_is a b m n k w f g within = ap (λ t. int_eq (if t then a +ℤ pos k else a -ℤ pos k) (pos w)) (le_test a b m n f g) ∙ by (nat_le m n) refl
  where
    by : (t : Bool) → nat_le m n ≡ t → int_eq (if t then a +ℤ pos k else a -ℤ pos k) (pos w) ≡ ((if t then m + k else m - k) == w + 4096)
    by true e = int_test (a +ℤ pos k) (pos w) (m + k) (w + 4096) (λ h. omega (arith, ints, h, f.value)) (λ h. omega (arith, ints, h, f.value))
    by false e = let lt : n < m = grind (arith, nat_tests, e) in
        int_test (a -ℤ pos k) (pos w) (m - k) (w + 4096) (λ h. omega (arith, ints, h, f.value, lt, within)) (λ h. omega (arith, ints, h, f.value, lt, within))

-- a number of steps that isn't too large stays between the ends
toward_within : (a b : ℤ) (m n k w : ℕ) → IsShifted a m → IsShifted b n → k ≤ apart m n → (step m n k == w + 4096) ≡ true → within (int_min a b) (nat_abs (b -ℤ a) + 1) (pos w) ≡ true
toward_within a b m n k w f g inside h = by (nat_le m n) refl (eq h)
  where
    eq : (step m n k == w + 4096) ≡ true → step m n k ≡ w + 4096
    eq e = grind (arith, nat_tests, e)

    long : nat_abs (b -ℤ a) ≡ apart n m
    long = abs_is (b -ℤ a) n m (omega (arith, ints, f.value, g.value))

    by : (t : Bool) → nat_le m n ≡ t → (if t then m + k else m - k) ≡ w + 4096 → within (int_min a b) (nat_abs (b -ℤ a) + 1) (pos w) ≡ true
    by true e h = let le : m ≤ n = grind (arith, nat_tests, e) in
        within-from (int_min a b) (nat_abs (b -ℤ a) + 1) (pos w) (omega (arith, ints, clamps, h, f.value, g.value, le, inside)) (omega (arith, ints, clamps, h, f.value, g.value, le, inside, long))
    by false e h = let lt : n < m = grind (arith, nat_tests, e) in
        within-from (int_min a b) (nat_abs (b -ℤ a) + 1) (pos w) (omega (arith, ints, clamps, h, f.value, g.value, lt, inside)) (omega (arith, ints, clamps, h, f.value, g.value, lt, inside, long))

rise_bound : (i du dv : ℕ) → i ≤ du → 0 < du → (2 * (i * dv) + du) / (2 * du) ≤ dv
rise_bound i du dv le some =
    let most : i * dv ≤ du * dv = mul-le i dv du dv le (omega arith) in
    let turn : (dv + 1) * (2 * du) ≡ 2 * (du * dv) + 2 * du = grind arith in
    let lt = div_below (2 * (i * dv) + du) (2 * du) (dv + 1) (omega (arith, some)) (omega (arith, most, turn, some)) in
    omega (arith, lt)

-- ---- one orientation

module _ (u0 v0 u1 v1 : ℤ) (c : Course) (eu0 : IsShifted u0 c.from_u) (ev0 : IsShifted v0 c.from_v) (eu1 : IsShifted u1 c.to_u) (ev1 : IsShifted v1 c.to_v) (is : IsCourse c) where
  du_is : nat_abs (u1 -ℤ u0) ≡ apart c.from_u c.to_u
  du_is = let e = abs_is (u1 -ℤ u0) c.to_u c.from_u (omega (arith, ints, eu0.value, eu1.value)) in omega (arith, e)

  dv_is : nat_abs (v1 -ℤ v0) ≡ apart c.from_v c.to_v
  dv_is = let e = abs_is (v1 -ℤ v0) c.to_v c.from_v (omega (arith, ints, ev0.value, ev1.value)) in omega (arith, e)

  steps_are : (u : ℕ) → nat_abs (pos u -ℤ u0) ≡ apart (u + 4096) c.from_u
  steps_are u = abs_is (pos u -ℤ u0) (u + 4096) c.from_u (omega (arith, ints, eu0.value))

  -- the two tests of a place that is a steps away
  place_is : (u v a : ℕ) → (nat_lt a (apart c.from_u c.to_u + 1) && ((step c.from_u c.to_u a == u + 4096) && (step c.from_v c.to_v (rise c a) == v + 4096)))
      ≡ ((nat_le a (apart c.from_u c.to_u) && int_eq (towards u0 u1 a) (pos u)) && int_eq (towards v0 v1 (rise c a)) (pos v))
  place_is u v a = by (nat_le a (apart c.from_u c.to_u)) refl
    where
      less : nat_lt a (apart c.from_u c.to_u + 1) ≡ nat_le a (apart c.from_u c.to_u)
      less = grind (arith, nat_tests)

      by : (t : Bool) → nat_le a (apart c.from_u c.to_u) ≡ t
          → (nat_lt a (apart c.from_u c.to_u + 1) && ((step c.from_u c.to_u a == u + 4096) && (step c.from_v c.to_v (rise c a) == v + 4096)))
          ≡ ((nat_le a (apart c.from_u c.to_u) && int_eq (towards u0 u1 a) (pos u)) && int_eq (towards v0 v1 (rise c a)) (pos v))
      by false e = ap (λ b. b && ((step c.from_u c.to_u a == u + 4096) && (step c.from_v c.to_v (rise c a) == v + 4096))) (less ∙ e)
          ∙ ap (λ b. (b && int_eq (towards u0 u1 a) (pos u)) && int_eq (towards v0 v1 (rise c a)) (pos v)) (sym e)
      by true e =
          let le : a ≤ apart c.from_u c.to_u = grind (arith, nat_tests, e) in
          let risen = rise_bound a (apart c.from_u c.to_u) (apart c.from_v c.to_v) le is.some in
          ap (λ b. b && ((step c.from_u c.to_u a == u + 4096) && (step c.from_v c.to_v (rise c a) == v + 4096))) (less ∙ e)
          ∙ ap (λ b. b && (step c.from_v c.to_v (rise c a) == v + 4096)) (sym (toward_is u0 u1 c.from_u c.to_u a u eu0 eu1 le))
          ∙ ap (λ b. int_eq (towards u0 u1 a) (pos u) && b) (sym (toward_is v0 v1 c.from_v c.to_v (rise c a) v ev0 ev1 risen))
          ∙ ap (λ b. (b && int_eq (towards u0 u1 a) (pos u)) && int_eq (towards v0 v1 (rise c a)) (pos v)) (sym e)

  pub long_line_is : (u v : ℕ) → is_course_place c (apart c.from_u c.to_u + 1) (u + 4096) (v + 4096) ≡ is_on_long_line u0 v0 u1 v1 (nat_abs (u1 -ℤ u0)) (nat_abs (v1 -ℤ v0)) (pos u) (pos v)
  long_line_is u v = place_is u v (apart (u + 4096) c.from_u)
      ∙ ap (λ a. (nat_le a (apart c.from_u c.to_u) && int_eq (towards u0 u1 a) (pos u)) && int_eq (towards v0 v1 (rise c a)) (pos v)) (sym (steps_are u))
      ∙ ap (λ d. (nat_le (nat_abs (pos u -ℤ u0)) d && int_eq (towards u0 u1 (nat_abs (pos u -ℤ u0))) (pos u)) && int_eq (towards v0 v1 ((2 * (nat_abs (pos u -ℤ u0) * apart c.from_v c.to_v) + d) / (2 * d))) (pos v)) (sym du_is)
      ∙ ap (λ d. (nat_le (nat_abs (pos u -ℤ u0)) (nat_abs (u1 -ℤ u0)) && int_eq (towards u0 u1 (nat_abs (pos u -ℤ u0))) (pos u))
      && int_eq (towards v0 v1 ((2 * (nat_abs (pos u -ℤ u0) * d) + nat_abs (u1 -ℤ u0)) / (2 * nat_abs (u1 -ℤ u0)))) (pos v)) (sym dv_is)

  -- both coordinates of such a pixel lie between the ends
  pub long_line_within : (u v : ℕ) → is_course_place c (apart c.from_u c.to_u + 1) (u + 4096) (v + 4096) ≡ true
      → (within (int_min u0 u1) (nat_abs (u1 -ℤ u0) + 1) (pos u) ≡ true) × (within (int_min v0 v1) (nat_abs (v1 -ℤ v0) + 1) (pos v) ≡ true)
  long_line_within u v h =
      let a = apart (u + 4096) c.from_u in
      let p = and_parts (nat_lt (apart (u + 4096) c.from_u) (apart c.from_u c.to_u + 1)) _ h in
      let q = and_parts (step c.from_u c.to_u (apart (u + 4096) c.from_u) == u + 4096) (step c.from_v c.to_v (rise c (apart (u + 4096) c.from_u)) == v + 4096) p.1 in
      let le : apart (u + 4096) c.from_u ≤ apart c.from_u c.to_u = below (apart (u + 4096) c.from_u) (apart c.from_u c.to_u) p.0 in (
        toward_within u0 u1 c.from_u c.to_u (apart (u + 4096) c.from_u) u eu0 eu1 le q.0,
        toward_within v0 v1 c.from_v c.to_v (rise c (apart (u + 4096) c.from_u)) v ev0 ev1 (rise_bound (apart (u + 4096) c.from_u) (apart c.from_u c.to_u) (apart c.from_v c.to_v) le is.some) q.1,
      )
    where
      below : (m n : ℕ) → nat_lt m (n + 1) ≡ true → m ≤ n
      below m n e = grind (arith, nat_tests, e)

-- ---- both orientations

then_is : {A : Type 0} (t : Bool) (x y : A) → t ≡ true → x ≡ (if t then x else y)
then_is true x y h = refl
then_is false x y h = absurd (cc h)

else_is : {A : Type 0} (t : Bool) (x y : A) → t ≡ false → y ≡ (if t then x else y)
else_is false x y h = refl
else_is true x y h = absurd (cc h)

module _ (e : Ends) (a b c d : ℕ) (ex0 : IsShifted e.x0 a) (ey0 : IsShifted e.y0 b) (ex1 : IsShifted e.x1 c) (ey1 : IsShifted e.y1 d) where
  dx_is : nat_abs (e.x1 -ℤ e.x0) ≡ apart a c
  dx_is = let h = abs_is (e.x1 -ℤ e.x0) c a (omega (arith, ints, ex0.value, ex1.value)) in omega (arith, h)

  dy_is : nat_abs (e.y1 -ℤ e.y0) ≡ apart b d
  dy_is = let h = abs_is (e.y1 -ℤ e.y0) d b (omega (arith, ints, ey0.value, ey1.value)) in omega (arith, h)

  pub level_is : IsCourse (record { is_steep = false; from_u = a; from_v = b; to_u = c; to_v = d })
      → IsCourseOf e (record { is_steep = false; from_u = a; from_v = b; to_u = c; to_v = d })
  level_is is =
      let course : Course = record { is_steep = false; from_u = a; from_v = b; to_u = c; to_v = d } in
      let longer : nat_le (nat_abs (e.y1 -ℤ e.y0)) (nat_abs (e.x1 -ℤ e.x0)) ≡ true = grind (arith, nat_tests, dx_is, dy_is, is.longer) in
      record {
        pixels = λ x y. long_line_is e.x0 e.y0 e.x1 e.y1 course ex0 ey0 ex1 ey1 is x y ∙ then_is (nat_le (nat_abs (e.y1 -ℤ e.y0)) (nat_abs (e.x1 -ℤ e.x0))) _ _ longer;
        within = λ x y h. let w = long_line_within e.x0 e.y0 e.x1 e.y1 course ex0 ey0 ex1 ey1 is x y h in and_from _ _ w.0 w.1;
      }

  pub steep_is : IsCourse (record { is_steep = true; from_u = b; from_v = a; to_u = d; to_v = c }) → apart a c < apart b d
      → IsCourseOf e (record { is_steep = true; from_u = b; from_v = a; to_u = d; to_v = c })
  steep_is is more =
      let course : Course = record { is_steep = true; from_u = b; from_v = a; to_u = d; to_v = c } in
      let longer : nat_le (nat_abs (e.y1 -ℤ e.y0)) (nat_abs (e.x1 -ℤ e.x0)) ≡ false = grind (arith, nat_tests, dx_is, dy_is, more) in
      record {
        pixels = λ x y. long_line_is e.y0 e.x0 e.y1 e.x1 course ey0 ex0 ey1 ex1 is y x ∙ else_is (nat_le (nat_abs (e.y1 -ℤ e.y0)) (nat_abs (e.x1 -ℤ e.x0))) _ _ longer;
        within = λ x y h. let w = long_line_within e.y0 e.x0 e.y1 e.x1 course ey0 ex0 ey1 ex1 is y x h in and_from _ _ w.1 w.0;
      }

-- ---- the rule of lines

record IsSlanted (e : Ends) : Type 0 where
  x : int_eq e.x0 e.x1 ≡ false
  y : int_eq e.y0 e.y1 ≡ false

kept : (s t u : Bool) (n : ℕ) → broken_if ((s || t) || u) n ≡ None → (s ≡ false) × (t ≡ false)
kept false false u n h = (refl, refl)
kept true t u n h = absurd (cc h)
kept false true u n h = absurd (cc h)

pub ends_are_apart : (e : Ends) (a c b d : ℕ) → IsShifted e.x0 a → IsShifted e.x1 c → IsShifted e.y0 b → IsShifted e.y1 d → line_rule e.x0 e.y0 e.x1 e.y1 ≡ None → (0 < apart a c) × (0 < apart b d)
ends_are_apart e a c b d ex0 ex1 ey0 ey1 h =
    let k = kept (int_eq e.x0 e.x1) (int_eq e.y0 e.y1) (not ((is_corner e.x0 && is_corner e.y0) && (is_corner e.x1 && is_corner e.y1))) 7 h in
    (one e.x0 e.x1 a c ex0 ex1 k.0, one e.y0 e.y1 b d ey0 ey1 k.1)
  where
    one : (u v : ℤ) (m n : ℕ) → IsShifted u m → IsShifted v n → int_eq u v ≡ false → 0 < apart m n
    one u v m n f g none = by (apart m n) refl
      where
        by : (k : ℕ) → apart m n ≡ k → 0 < apart m n
        by zero z = let same : u ≡ v = omega (arith, ints, f.value, g.value, z) in absurd (cc (sym none ∙ (Decides-int_eq u v).1 same))
        by (suc k) z = omega (arith, z)

-- ---- the whole line

line_choice : (p c i r l : Bool) (color x y o : ℕ) → p ≡ (c && i) → i ≡ true → (l ≡ true → r ≡ true) → (if p && l then color else o) ≡ where_chosen (c && (r && l)) (solid session_colors color) (pos x) (pos y) o
line_choice p true i r true color x y o e all box = ap (λ b. if b && true then color else o) (e ∙ all) ∙ ap (λ b. where_chosen (b && true) (solid session_colors color) (pos x) (pos y) o) (sym (box refl))
line_choice p true i r false color x y o e all box = ap (λ b. if b then color else o) (and_false p false refl) ∙ ap (λ b. where_chosen b (solid session_colors color) (pos x) (pos y) o) (sym (and_false r false refl))
line_choice p false i r l color x y o e all box = ap (λ b. if b && l then color else o) e

in_whole : (size : Size) (x y : ℕ) → x < size.w → y < size.h → in_rect (whole size) (pos x) (pos y) ≡ true
in_whole size x y left above = grind (arith, nat_tests, left, above)

pub line_is : (size : Size) (clip : Area) (e : Ends) (c : Course) (color : ℕ) (part : Part) (old new : List ℕ) → length old ≡ pixel_count size → IsCourseOf e c
    → ((x y : ℕ) → x < size.w → y < size.h → in_part part x y ≡ (clip (pos x) (pos y) && in_rect (whole size) (pos x) (pos y)))
    → IsRepainted size (λ x y. in_part part x y && is_course_pixel c (apart c.from_u c.to_u + 1) x y) (λ x y. color) old new → new ≡ picture_after size clip (lined e color) old
line_is size clip e c color part old new whole_old is seen done = painted_is size clip (lined e color) _ (λ x y. color) old new whole_old done (λ x y left above.
    let o = pixel_at size old 0 x y in
    line_choice (in_part part x y) (clip (pos x) (pos y)) (in_rect (whole size) (pos x) (pos y)) (in_rect (line_rect e.x0 e.y0 e.x1 e.y1) (pos x) (pos y)) (is_course_pixel c (apart c.from_u c.to_u + 1) x y) color x y o
    (seen x y left above) (in_whole size x y left above) (is.within x y)
    ∙ ap (λ b. where_chosen (clip (pos x) (pos y) && (in_rect (line_rect e.x0 e.y0 e.x1 e.y1) (pos x) (pos y) && b)) (solid session_colors color) (pos x) (pos y) o) (is.pixels x y))

pub line_unseen : (size : Size) (clip : Area) (e : Ends) (color : ℕ) (old : List ℕ) → length old ≡ pixel_count size
    → ((x y : ℕ) → x < size.w → y < size.h → false ≡ (clip (pos x) (pos y) && in_rect (whole size) (pos x) (pos y))) → old ≡ picture_after size clip (lined e color) old
line_unseen size clip e color old whole_old none = painted_is size clip (lined e color) (λ x y. false) (λ x y. 0) old old whole_old (none_painted size (λ x y. false) (λ x y. 0) old (λ x y. refl)) (λ x y left above.
    unseen (clip (pos x) (pos y)) (in_rect (whole size) (pos x) (pos y)) _ x y (pixel_at size old 0 x y) (none x y left above) (in_whole size x y left above))
  where
    unseen : (c i r : Bool) (x y o : ℕ) → false ≡ (c && i) → i ≡ true → o ≡ where_chosen (c && r) (solid session_colors color) (pos x) (pos y) o
    unseen false i r x y o h all = refl
    unseen true i r x y o h all = absurd (cc (h ∙ all))
