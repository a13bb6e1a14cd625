-- Pixels that are cut out of a picture are a picture of their own.
use Rattle.std.proofs.Common.{◌≡◌, ℕ, zero, suc, ◌+◌, ◌*◌, ◌/◌, ◌%◌, ◌-◌, ◌<◌, ◌≤◌, List, [], ◌++◌, length, get_or, ap, sym, ◌∙◌, mod-lt, mul_comm, ◌⊎◌, inl, inr, length-append, arith}
use Rattle.std.specs.Prelude.{pos, ◌+ℤ◌, ℤ}
use Rattle.std.proofs.lemmas.Nat.{div_below, mul-add-lt}
use Rattle.std.proofs.lemmas.List.{get_or_append_left, get_or-append-add}
use Rattle.std.proofs.lemmas.Bool.{cases_lt}
use Rattle.std.proofs.lemmas.Bool.Decides.{nat_tests}
use Rattle.px_core.specs.declared.surface.Size.{Size}
use Rattle.px_core.specs.declared.rectangle.Rect.{Rect}
use Rattle.px_core.specs.Picture.{item, pixel_at, rows_of, pixel_in}
use Rattle.px_core.specs.Rectangle.{cut_out, pixel_of}
use Rattle.px_core.proofs.Pictures.{item-get_or, same_items, length-listed, item-listed, pixel-rows_of}
use Rattle.surface_parts.specs.declared.part.Part.{Part}
use Rattle.surface_parts.specs.declared.texture.Texture.{Texture}
use Rattle.surface_parts.specs.Parts.{in_part, part_at, IsInside, IsRectPart, IsRepainted, AreFirstRows}
use Rattle.surface_parts.specs.Textures.{texture_color}
use Rattle.surface_parts.proofs.Repaint.{under_true}

column_below : (w h i : ℕ) → i < w * h → i % w < w
column_below zero h i k = absurd (omega (arith, k))
column_below (suc w) h i k = mod-lt i (omega arith)

row_below : (w h i : ℕ) → i < w * h → i / w < h
row_below zero h i k = absurd (omega (arith, k))
row_below (suc w) h i k = div_below i (suc w) h (omega arith) (rw (mul_comm h (suc w)) k)

at_place : (w h i : ℕ) → i < w * h → w * (i / w) + i % w ≡ i
at_place zero h i k = absurd (omega (arith, k))
at_place (suc w) h i k = omega arith

-- pixel (x, y) of a rectangle of a picture, from the rectangle's corner
pub pixel_from : (size : Size) (ps : List ℕ) (zx zy : ℤ) (px py u v : ℕ) → zx ≡ pos px → zy ≡ pos py → px + u < size.w → py + v < size.h
    → pixel_in (rows_of size.w size.h ps) 0 (zx +ℤ pos u) (zy +ℤ pos v) ≡ pixel_at size ps 0 (px + u) (py + v)
pixel_from size ps zx zy px py u v ex ey left above =
    ap (λ z. pixel_in (rows_of size.w size.h ps) 0 (z +ℤ pos u) (zy +ℤ pos v)) ex ∙ ap (λ z. pixel_in (rows_of size.w size.h ps) 0 (pos px +ℤ pos u) (z +ℤ pos v)) ey
    ∙ pixel-rows_of size.w size.h ps (px + u) (py + v) 0 left above

module _ (size : Size) (ps : List ℕ) (r : Rect) (part : Part) (is : IsRectPart r part) (inside : IsInside size part) where
  -- a list that has the pixels of a rectangle is what is cut out
  pub pixels_are_cut : (new : List ℕ) → length new ≡ r.w * r.h
      → ((u v : ℕ) → u < r.w → v < r.h → item new (r.w * v + u) 0 ≡ pixel_at size ps 0 (part.x + u) (part.y + v)) → new ≡ cut_out size ps 0 r
  pixels_are_cut new e pixel = same_items 0 new (cut_out size ps 0 r) (e ∙ sym (length-listed (r.w * r.h) 0 (pixel_of (rows_of size.w size.h ps) 0 r))) (λ k lt.
      let within : k < r.w * r.h = omega (arith, lt, e) in
      let left = column_below r.w r.h k within in
      let above = row_below r.w r.h k within in
      let same : 0 + k ≡ k = omega arith in
      ap (λ i. item new i 0) (sym (at_place r.w r.h k within))
      ∙ pixel (k % r.w) (k / r.w) left above
      ∙ sym (pixel_from size ps r.x r.y part.x part.y (k % r.w) (k / r.w) is.x is.y (omega (arith, left, is.w, inside.columns)) (omega (arith, above, is.h, inside.rows)))
      ∙ ap (pixel_of (rows_of size.w size.h ps) 0 r) (sym same)
      ∙ sym (item-listed (r.w * r.h) 0 (pixel_of (rows_of size.w size.h ps) 0 r) k 0 within))

  -- all rows of a rectangle, one after the other, are what is cut out
  pub rows_are_cut : (cut : List ℕ) → AreFirstRows size ps part part.h cut → cut ≡ cut_out size ps 0 r
  rows_are_cut cut done = pixels_are_cut cut (done.sized ∙ ap (λ n. n * part.h) (sym is.w) ∙ ap (λ n. r.w * n) (sym is.h))
      (λ u v left above. ap (λ n. item cut (n * v + u) 0) is.w ∙ done.pixel u v (omega (arith, left, is.w)) (omega (arith, above, is.h)))

pub no_rows_yet : (size : Size) (ps : List ℕ) (part : Part) → AreFirstRows size ps part 0 []
no_rows_yet size ps part = record { sized = grind arith; pixel = λ u v left above. absurd (omega (arith, above)) }

module _ (size : Size) (ps : List ℕ) (part : Part) (k : ℕ) (cut : List ℕ) where
  -- one row more
  pub one_row_more : (row : List ℕ) → AreFirstRows size ps part k cut → length row ≡ part.w
      → ((u : ℕ) → u < part.w → get_or row u 0 ≡ pixel_at size ps 0 (part.x + u) (part.y + k)) → AreFirstRows size ps part (k + 1) (cut ++ row)
  one_row_more row done long pixel = record {
    sized = length-append cut row ∙ ap (λ n. n + length row) done.sized ∙ ap (λ n. part.w * k + n) long ∙ (let next : part.w * (k + 1) ≡ part.w * k + part.w = grind arith in sym next);
    pixel = λ u v left above. by_row u v left above (cases_lt v k);
  }
    where
      by_row : (u v : ℕ) → u < part.w → v < k + 1 → (v < k) ⊎ (k ≤ v) → item (cut ++ row) (part.w * v + u) 0 ≡ pixel_at size ps 0 (part.x + u) (part.y + v)
      by_row u v left above (inl before) =
          let place : part.w * v + u < length cut = (let low : v * part.w + u < part.w * k = mul-add-lt v part.w u k before left in let turned : part.w * v ≡ v * part.w = mul_comm part.w v in omega (arith, low, turned, done.sized)) in
          item-get_or (cut ++ row) (part.w * v + u) 0 ∙ get_or_append_left cut row 0 (part.w * v + u) place ∙ sym (item-get_or cut (part.w * v + u) 0) ∙ done.pixel u v left before
      by_row u v left above (inr behind) =
          let same : v ≡ k = omega (arith, above, behind) in
          item-get_or (cut ++ row) (part.w * v + u) 0
          ∙ ap (λ i. get_or (cut ++ row) i 0) (ap (λ n. part.w * n + u) same ∙ ap (λ n. n + u) (sym done.sized))
          ∙ get_or-append-add cut row u 0 ∙ pixel u left ∙ ap (λ n. pixel_at size ps 0 (part.x + u) (part.y + n)) (sym same)

module _ (size : Size) (ps : List ℕ) (r : Rect) (part : Part) (t : Texture) (old new : List ℕ) (is : IsRectPart r part) (inside : IsInside size part)
    (et : t.pixels.now ≡ ps) (ew : t.w ≡ size.w) (ex : t.x ≡ part.x) (ey : t.y ≡ part.y) where
  pub cut_is : length old ≡ r.w * r.h → IsRepainted (record { w = r.w; h = r.h }) (in_part (part_at 0 0 part.w part.h)) (texture_color (part_at 0 0 part.w part.h) t) old new → new ≡ cut_out size ps 0 r
  cut_is e done = pixels_are_cut size ps r part is inside new (done.sized ∙ e) (λ u v left above.
      done.pixel u v left above
      ∙ sym (under_true (in_part (part_at 0 0 part.w part.h) u v) _ _ (grind (arith, nat_tests, left, above, is.w, is.h)))
      ∙ ap (λ qs. get_or qs (t.w * (t.y + (v - 0)) + (t.x + (u - 0))) 0) et
      ∙ place u v)
    where
      place : (u v : ℕ) → get_or ps (t.w * (t.y + (v - 0)) + (t.x + (u - 0))) 0 ≡ pixel_at size ps 0 (part.x + u) (part.y + v)
      place u v = let eu : u - 0 ≡ u = omega arith in let ev : v - 0 ≡ v = omega arith in
          ap (λ n. get_or ps (n * (t.y + (v - 0)) + (t.x + (u - 0))) 0) ew ∙ ap (λ n. get_or ps (size.w * (n + (v - 0)) + (t.x + (u - 0))) 0) ey ∙ ap (λ n. get_or ps (size.w * (part.y + n) + (t.x + (u - 0))) 0) ev
          ∙ ap (λ n. get_or ps (size.w * (part.y + v) + (n + (u - 0))) 0) ex ∙ ap (λ n. get_or ps (size.w * (part.y + v) + (part.x + n)) 0) eu
          ∙ sym (item-get_or ps (size.w * (part.y + v) + (part.x + u)) 0)
