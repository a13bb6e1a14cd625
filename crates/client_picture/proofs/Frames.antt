-- What is seen of a rectangle has the rectangle's pixels on the picture.
use Rattle.std.proofs.Common.{◌≡◌, ℕ, zero, suc, ◌≤◌, ◌<◌, ap, ◌∙◌, arith, inl, inr}
use Rattle.std.specs.Prelude.{Bool, true, ◌&&◌, nat_le, nat_lt, ℤ, pos, ◌+ℤ◌, ◌≤ℤ◌, ◌<ℤ◌, int_le, int_lt, Option}
use Rattle.std.proofs.lemmas.Int.{ints}
use Rattle.std.proofs.lemmas.Bool.{cases_lt}
use Rattle.std.proofs.lemmas.Bool.Decides.{nat_tests}
use Rattle.px_core.specs.declared.surface.Size.{Size}
use Rattle.px_core.specs.declared.rectangle.Rect.{Rect}
use Rattle.px_core.specs.Picture.{Area}
use Rattle.px_core.specs.Rectangle.{boxed, in_rect}
use Rattle.px_core.proofs.Stretches.{same_test, int_le_from, int_lt_from, nat_le_from}
use Rattle.client_picture.specs.declared.frame.Frame.{Frame}
use Rattle.client_picture.specs.declared.part.Part.{Part}
use Rattle.client_picture.specs.Parts.{in_frame, in_optional_part, IsEdge, IsSeen}

module _ (limit : ℕ) (z : ℤ) (u : ℕ) (lt : u < limit) where
  le_edge : (n : ℕ) → IsEdge limit z n → nat_le n u ≡ int_le z (pos u)
  le_edge n e = same_test (nat_le n u) (int_le z (pos u)) (λ h. int_le_from z (pos u) (there (grind (arith, nat_tests, h)))) (λ h. nat_le_from n u (back n e (omega (arith, ints, h))))
    where
      there : n ≤ u → z ≤ℤ pos u
      there le = let b = e.before (omega (arith, le, lt)) in omega (arith, ints, b, le)

      back : (m : ℕ) → IsEdge limit z m → z ≤ℤ pos u → m ≤ u
      back zero e h = omega arith
      back (suc m) e h = let b = e.behind (omega arith) in omega (arith, ints, b, h)

  lt_edge : (n : ℕ) → IsEdge limit z n → nat_lt u n ≡ int_lt (pos u) z
  lt_edge n e = same_test (nat_lt u n) (int_lt (pos u) z) (λ h. int_lt_from (pos u) z (there (grind (arith, nat_tests, h)))) (λ h. nat_lt_from (back (omega (arith, ints, h))))
    where
      there : u < n → pos u <ℤ z
      there less = let b = e.behind (omega (arith, less)) in omega (arith, ints, b, less)

      back : pos u <ℤ z → u < n
      back h = elim (cases_lt u n) [
        | inl less ↦ less
        | inr ge ↦ let b = e.before (omega (arith, ge, lt)) in absurd (omega (arith, ints, b, h, ge))
      ]

      nat_lt_from : u < n → nat_lt u n ≡ true
      nat_lt_from less = grind (arith, nat_tests, less)

both_same : (a b c d : Bool) → a ≡ b → c ≡ d → (a && c) ≡ (b && d)
both_same a b c d e f = ap (λ t. t && c) e ∙ ap (λ t. b && t) f

pub seen_pixels : (size : Size) (x y x0 y0 : ℤ) (w h : ℕ) (f : Frame) → IsSeen size x y w h f → x ≡ x0 → y ≡ y0 → (u v : ℕ) → u < size.w → v < size.h
    → in_frame f u v ≡ in_rect (boxed x0 y0 w h) (pos u) (pos v)
seen_pixels size x y x0 y0 w h f seen ex ey u v left above =
    both_same (nat_le f.left u && nat_lt u f.right) (int_le x (pos u) && int_lt (pos u) (x +ℤ pos w)) (nat_le f.top v && nat_lt v f.bottom) (int_le y (pos v) && int_lt (pos v) (y +ℤ pos h))
    (both_same (nat_le f.left u) (int_le x (pos u)) (nat_lt u f.right) (int_lt (pos u) (x +ℤ pos w)) (le_edge size.w x u left f.left seen.left) (lt_edge size.w (x +ℤ pos w) u left f.right seen.right))
    (both_same (nat_le f.top v) (int_le y (pos v)) (nat_lt v f.bottom) (int_lt (pos v) (y +ℤ pos h)) (le_edge size.h y v above f.top seen.top) (lt_edge size.h (y +ℤ pos h) v above f.bottom seen.bottom))
    ∙ ap (λ z. in_rect (boxed z y w h) (pos u) (pos v)) ex ∙ ap (λ z. in_rect (boxed x0 z w h) (pos u) (pos v)) ey

-- the same rectangle in other words
pub same_box : (clip : Bool) (x y x0 y0 : ℤ) (w h : ℕ) (u v : ℤ) → x ≡ x0 → y ≡ y0 → (clip && in_rect (boxed x y w h) u v) ≡ (clip && in_rect (boxed x0 y0 w h) u v)
same_box clip x y x0 y0 w h u v ex ey = ap (λ z. clip && in_rect (boxed z y w h) u v) ex ∙ ap (λ z. clip && in_rect (boxed x0 z w h) u v) ey

pub same_rect : (x y : ℤ) (w h : ℕ) (x0 y0 : ℤ) (w0 h0 : ℕ) → x ≡ x0 → y ≡ y0 → w ≡ w0 → h ≡ h0 → boxed x y w h ≡ boxed x0 y0 w0 h0
same_rect x y w h x0 y0 w0 h0 ex ey ew eh = ap (λ z. boxed z y w h) ex ∙ ap (λ z. boxed x0 z w h) ey ∙ ap (λ n. boxed x0 y0 n h) ew ∙ ap (λ n. boxed x0 y0 w0 n) eh

-- what is seen of it
pub seen_in : (size : Size) (clip : Area) (part : Option Part) (r s : Rect)
    → ((u v : ℕ) → u < size.w → v < size.h → in_optional_part part u v ≡ (clip (pos u) (pos v) && in_rect r (pos u) (pos v))) → r ≡ s
    → (u v : ℕ) → u < size.w → v < size.h → in_optional_part part u v ≡ (clip (pos u) (pos v) && in_rect s (pos u) (pos v))
seen_in size clip part r s seen e u v left above = seen u v left above ∙ ap (λ z. clip (pos u) (pos v) && in_rect z (pos u) (pos v)) e
