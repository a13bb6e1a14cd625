-- Pixels that are cut out of a picture are a picture of their own.
use Rattle.std.proofs.Common.{◌≡◌, ℕ, zero, suc, ◌+◌, ◌*◌, ◌/◌, ◌%◌, ◌-◌, ◌<◌, List, length, get_or, ap, sym, ◌∙◌, mod-lt, mul_comm, arith}
use Rattle.std.specs.Prelude.{Option, None, pos, ◌+ℤ◌}
use Rattle.std.proofs.lemmas.Int.{ints}
use Rattle.std.proofs.lemmas.Nat.{div_below}
use Rattle.std.proofs.lemmas.Bool.Decides.{nat_tests}
use Rattle.px_core.specs.declared.surface.Size.{Size}
use Rattle.px_core.specs.declared.rectangle.Rect.{Rect}
use Rattle.px_core.specs.Picture.{item, rows_of, pixel_in}
use Rattle.px_core.specs.Rectangle.{cut_out, pixel_of}
use Rattle.px_core.proofs.Pictures.{item-get_or, same_items, length-listed, item-listed, pixel-rows_of}
use Rattle.client_picture.specs.declared.corner.Corner.{Corner}
use Rattle.client_picture.specs.Parts.{in_part, part_at, IsRepainted}
use Rattle.client_picture.specs.Sources.{pixel_from}
use Rattle.client_picture.proofs.Repaint.{under_true}
use Rattle.client_picture.proofs.Shifts.{IsOn}

column_below : (w h i : ℕ) → i < w * h → i % w < w
column_below zero h i k = absurd (omega (arith, k))
column_below (suc w) h i k = mod-lt i (omega arith)

row_below : (w h i : ℕ) → i < w * h → i / w < h
row_below zero h i k = absurd (omega (arith, k))
row_below (suc w) h i k = div_below i (suc w) h (omega arith) (rw (mul_comm h (suc w)) k)

at_place : (w h i : ℕ) → i < w * h → w * (i / w) + i % w ≡ i
at_place zero h i k = absurd (omega (arith, k))
at_place (suc w) h i k = omega arith

module _ (size : Size) (ps : List (Option ℕ)) (r : Rect) (from : Corner) (ex : pos from.x ≡ r.x) (ey : pos from.y ≡ r.y) (on : IsOn size.w size.h r) where
  -- pixel (u, v) of the rectangle
  inner : (u v : ℕ) → u < r.w → v < r.h → get_or ps (size.w * (from.y + (v - 0)) + (from.x + (u - 0))) None ≡ pixel_in (rows_of size.w size.h ps) None (r.x +ℤ pos u) (r.y +ℤ pos v)
  inner u v left above =
      let eu : pos (from.x + (u - 0)) ≡ r.x +ℤ pos u = omega (arith, ints, ex) in
      let ev : pos (from.y + (v - 0)) ≡ r.y +ℤ pos v = omega (arith, ints, ey) in
      sym (item-get_or ps (size.w * (from.y + (v - 0)) + (from.x + (u - 0))) None)
      ∙ sym (pixel-rows_of size.w size.h ps (from.x + (u - 0)) (from.y + (v - 0)) None (omega (arith, ints, left, ex, on.right)) (omega (arith, ints, above, ey, on.below)))
      ∙ ap (λ z. pixel_in (rows_of size.w size.h ps) None z (pos (from.y + (v - 0)))) eu ∙ ap (λ z. pixel_in (rows_of size.w size.h ps) None (r.x +ℤ pos u) z) ev

  pub cut_is : (old new : List (Option ℕ)) → length old ≡ r.w * r.h → IsRepainted (record { w = r.w; h = r.h }) (in_part (part_at 0 0 r.w r.h)) (pixel_from ps size.w from (part_at 0 0 r.w r.h)) old new
      → new ≡ cut_out size ps None r
  cut_is old new e done = same_items None new (cut_out size ps None r) (done.sized ∙ e ∙ sym (length-listed (r.w * r.h) 0 (pixel_of (rows_of size.w size.h ps) None r))) (λ k lt.
      let within : k < r.w * r.h = omega (arith, lt, done.sized, e) in
      let left = column_below r.w r.h k within in
      let above = row_below r.w r.h k within in
      let same : 0 + k ≡ k = omega arith in
      ap (λ i. item new i None) (sym (at_place r.w r.h k within))
      ∙ done.pixel (k % r.w) (k / r.w) left above
      ∙ sym (under_true (in_part (part_at 0 0 r.w r.h) (k % r.w) (k / r.w)) _ _ (grind (arith, nat_tests, left, above)))
      ∙ inner (k % r.w) (k / r.w) left above
      ∙ ap (pixel_of (rows_of size.w size.h ps) None r) (sym same)
      ∙ sym (item-listed (r.w * r.h) 0 (pixel_of (rows_of size.w size.h ps) None r) k None within))
