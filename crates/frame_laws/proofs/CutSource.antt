-- The source of a cut copy lies where the whole source lies.
use Rattle.std.proofs.Common.{◌≡◌, ℕ, ◌≤◌, refl, arith}
use Rattle.std.specs.Prelude.{Bool, true, false, ◌&&◌, nat_le, Option, ℤ, pos, ◌+ℤ◌, ◌-ℤ◌, ◌≤ℤ◌, int_le, int_lt}
use Rattle.std.proofs.lemmas.Int.{ints}
use Rattle.std.proofs.lemmas.Bool.{and_from, and_parts}
use Rattle.std.proofs.lemmas.Bool.Decides.{nat_tests}
use Rattle.px_core.specs.declared.surface.Size.{Size}
use Rattle.px_core.specs.declared.rectangle.Rect.{Rect}
use Rattle.px_core.specs.Rectangle.{boxed, within, in_rect, has_pixel, is_inside, whole, common, clipped}
use Rattle.frame_rules.specs.Cautious.{moved}
use Rattle.frame_rules.proofs.TileLaws.{within-low, within-high, int_le_from, int_lt_from}
use Rattle.frame_laws.proofs.Cut.{common-in_rect, clipped-in_rect}

some : (n : ℕ) → nat_le 1 n ≡ true → 1 ≤ n
some n h = grind (arith, nat_tests, h)

first_within : (a : ℤ) (n : ℕ) → 1 ≤ n → within a n a ≡ true
first_within a n h = and_from _ _ (int_le_from a a (omega (arith, ints))) (int_lt_from a (a +ℤ pos n) (omega (arith, ints, h)))

last_within : (a : ℤ) (n : ℕ) → 1 ≤ n → within a n ((a +ℤ pos n) -ℤ pos 1) ≡ true
last_within a n h = and_from _ _ (int_le_from a ((a +ℤ pos n) -ℤ pos 1) (omega (arith, ints, h)))
    (int_lt_from ((a +ℤ pos n) -ℤ pos 1) (a +ℤ pos n) (omega (arith, ints)))

-- a rectangle within another one, by its first and its last pixel
pub record Nested (a r : Rect) : Type 0 where
  pub left : r.x ≤ℤ a.x
  pub right : (a.x +ℤ pos a.w) ≤ℤ (r.x +ℤ pos r.w)
  pub top : r.y ≤ℤ a.y
  pub bottom : (a.y +ℤ pos a.h) ≤ℤ (r.y +ℤ pos r.h)

pub nested : (a r : Rect) → has_pixel a ≡ true → ((x y : ℤ) → in_rect a x y ≡ true → in_rect r x y ≡ true) → Nested a r
nested a r h sub =
    let sides = and_parts (nat_le 1 a.w) (nat_le 1 a.h) h in
    let w = some a.w sides.0 in
    let t = some a.h sides.1 in
    let first = sub a.x a.y (and_from _ _ (first_within a.x a.w w) (first_within a.y a.h t)) in
    let last = sub ((a.x +ℤ pos a.w) -ℤ pos 1) ((a.y +ℤ pos a.h) -ℤ pos 1) (and_from _ _ (last_within a.x a.w w) (last_within a.y a.h t)) in
    let f = and_parts (within r.x r.w a.x) (within r.y r.h a.y) first in
    let l = and_parts (within r.x r.w ((a.x +ℤ pos a.w) -ℤ pos 1)) (within r.y r.h ((a.y +ℤ pos a.h) -ℤ pos 1)) last in
    let l0 = within-high r.x r.w ((a.x +ℤ pos a.w) -ℤ pos 1) l.0 in
    let l1 = within-high r.y r.h ((a.y +ℤ pos a.h) -ℤ pos 1) l.1 in
    record { left = within-low r.x r.w a.x f.0; right = omega (arith, ints, l0); top = within-low r.y r.h a.y f.1; bottom = omega (arith, ints, l1) }

-- in a picture of any size that the whole source lies in
pub cut_inside : (size into : Size) (r : Rect) (clip : Option Rect) (sx sy : ℤ) → has_pixel (common (whole size) (clipped r clip)) ≡ true
    → is_inside into (boxed sx sy r.w r.h) ≡ true
    → is_inside into (boxed (moved r.x (common (whole size) (clipped r clip)).x sx) (moved r.y (common (whole size) (clipped r clip)).y sy)
    (common (whole size) (clipped r clip)).w (common (whole size) (clipped r clip)).h) ≡ true
cut_inside size into r clip sx sy h inside =
    by (common (whole size) (clipped r clip))
    (nested (common (whole size) (clipped r clip)) r h (λ x y k. (clipped-in_rect r clip x y (common-in_rect (whole size) (clipped r clip) x y k).1).1))
  where
    by : (a : Rect) → Nested a r → is_inside into (boxed (moved r.x a.x sx) (moved r.y a.y sy) a.w a.h) ≡ true
    by a n =
        let s = and_parts (int_le (pos 0) sx && int_le (sx +ℤ pos r.w) (pos into.w)) (int_le (pos 0) sy && int_le (sy +ℤ pos r.h) (pos into.h)) inside in
        let u = and_parts (int_le (pos 0) sx) (int_le (sx +ℤ pos r.w) (pos into.w)) s.0 in
        let u0 = u.0 in
        let u1 = u.1 in
        let v = and_parts (int_le (pos 0) sy) (int_le (sy +ℤ pos r.h) (pos into.h)) s.1 in
        let v0 = v.0 in
        let v1 = v.1 in
        let l = n.left in
        let m = n.right in
        let t = n.top in
        let b = n.bottom in
        and_from _ _
        (and_from _ _ (int_le_from (pos 0) (moved r.x a.x sx) (omega (arith, ints, u0, l)))
        (int_le_from (moved r.x a.x sx +ℤ pos a.w) (pos into.w) (omega (arith, ints, u1, m))))
        (and_from _ _ (int_le_from (pos 0) (moved r.y a.y sy) (omega (arith, ints, v0, t)))
        (int_le_from (moved r.y a.y sy +ℤ pos a.h) (pos into.h) (omega (arith, ints, v1, b))))
