-- Rows and rectangles that were copied within a picture.
use Rattle.std.proofs.Common.{◌≡◌, ℕ, ◌+◌, ◌-◌, ◌≤◌, ◌<◌, List, true, refl, ap, sym, subst, ◌∙◌, arith}
use Rattle.std.specs.Prelude.{ℤ, pos, ◌+ℤ◌, ◌-ℤ◌, Option, ◌&&◌}
use Rattle.std.proofs.lemmas.Int.{ints}
use Rattle.std.proofs.lemmas.Bool.Decides.{nat_tests}
use Rattle.px_core.specs.declared.rectangle.Rect.{Rect}
use Rattle.px_core.specs.declared.surface.Size.{Size}
use Rattle.px_core.specs.Picture.{pixel_at, pixel_in, rows_of}
use Rattle.px_core.specs.Rectangle.{boxed, in_clip, in_rect, is_inside}
use Rattle.px_core.proofs.Pictures.{pixel-rows_of}
use Rattle.rop3_core.specs.Rop3.{ternary_raster}
use Rattle.rop3_core.specs.Palette.{session_colors}
use Rattle.draw_ops.specs.Drawing.{mixing}
use Rattle.draw_ops.specs.Formulas.{absent, picture_after, rastered, shifted}
use Rattle.surface_parts.specs.declared.part.Part.{Part}
use Rattle.surface_parts.specs.Parts.{in_part, part_at, IsCanvas, IsRepainted, IsWithinRect}
use Rattle.surface_parts.specs.Textures.{copied_color, IsSourceInside}
use Rattle.surface_parts.proofs.Paintings.{over_rect_is}
use Rattle.surface_parts.proofs.Repaint.{no_rows, row_below_more}
use Rattle.surface_parts.proofs.Seen.{lies_on}

-- a row that was painted, by other words for its width and its colours
pub row_again : (size : Size) (x y n m : ℕ) (f g : ℕ → ℕ → ℕ) (old new : List ℕ) → m ≡ n → IsRepainted size (in_part (part_at x y m 1)) g old new → ((u : ℕ) → x ≤ u → u < x + n → g u y ≡ f u y)
    → IsRepainted size (in_part (part_at x y n 1)) f old new
row_again size x y n m f g old new em done same = row_below_more size x n f g old old new y 0 y (omega arith) (no_rows size x y n 0 f old refl)
    (subst (λ (k : ℕ). IsRepainted size (in_part (part_at x y k 1)) g old new) em done) same

-- a source of a rectangle that lies inside the picture, for the part of it that is seen
module _ (size : Size) (rect : Rect) (part : Part) (rop tx ty : ℕ) (sx sy : ℤ) (within : IsWithinRect rect part) (inside : is_inside size (boxed sx sy rect.w rect.h) ≡ true)
    (column : pos tx ≡ (pos part.x -ℤ rect.x) +ℤ sx) (row : pos ty ≡ (pos part.y -ℤ rect.y) +ℤ sy) where
  pub source_inside : IsSourceInside size part (record { rop = rop; x = tx; y = ty })
  source_inside = let on = lies_on size (boxed sx sy rect.w rect.h) inside in record {
    columns = omega (arith, ints, on.right, column, within.right);
    rows = omega (arith, ints, on.below, row, within.below);
  }

  pub copied_is : (clip : Option Rect) (old new : List ℕ) → IsCanvas size old → IsRepainted size (in_part part) (copied_color size old part (record { rop = rop; x = tx; y = ty })) old new
      → ((x y : ℕ) → x < size.w → y < size.h → in_part part x y ≡ (in_clip clip (pos x) (pos y) && in_rect rect (pos x) (pos y)))
      → new ≡ picture_after size (in_clip clip) (mixing rect rop (absent session_colors) (shifted (rows_of size.w size.h old) 0 rect sx sy)) old
  copied_is clip old new canvas done seen =
      let on = lies_on size (boxed sx sy rect.w rect.h) inside in
      over_rect_is size (in_clip clip) rect (rastered session_colors rop (absent session_colors) (shifted (rows_of size.w size.h old) 0 rect sx sy)) old canvas.sized
      (in_part part) (copied_color size old part (record { rop = rop; x = tx; y = ty })) new done seen
      (λ x y left above h.
      let l : part.x ≤ x = grind (arith, nat_tests, h) in
      let r : x < part.x + part.w = grind (arith, nat_tests, h) in
      let a : part.y ≤ y = grind (arith, nat_tests, h) in
      let b : y < part.y + part.h = grind (arith, nat_tests, h) in
      let eu : (pos x -ℤ rect.x) +ℤ sx ≡ pos (tx + (x - part.x)) = omega (arith, ints, l, column) in
      let ev : (pos y -ℤ rect.y) +ℤ sy ≡ pos (ty + (y - part.y)) = omega (arith, ints, a, row) in
      ap (λ s. ternary_raster rop 0 s (pixel_at size old 0 x y))
      (sym (pixel-rows_of size.w size.h old (tx + (x - part.x)) (ty + (y - part.y)) 0 (omega (arith, ints, l, r, on.right, column, within.right)) (omega (arith, ints, a, b, on.below, row, within.below)))
      ∙ ap (λ z. pixel_in (rows_of size.w size.h old) 0 z (pos (ty + (y - part.y)))) (sym eu)
      ∙ ap (λ z. pixel_in (rows_of size.w size.h old) 0 ((pos x -ℤ rect.x) +ℤ sx) z) (sym ev)))
