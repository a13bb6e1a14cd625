-- Pixels of a source that stand as far from its start as those of a part from a rectangle's corner.
use Rattle.std.proofs.Common.{◌≡◌, ℕ, ◌+◌, ◌-◌, ◌*◌, ◌≤◌, ◌<◌, List, true, ap, ◌∙◌, arith}
use Rattle.std.specs.Prelude.{◌&&◌, ℤ, pos, ◌+ℤ◌, ◌-ℤ◌, ◌≤ℤ◌, int_le}
use Rattle.std.proofs.lemmas.Int.{ints}
use Rattle.std.proofs.lemmas.Bool.{and_parts}
use Rattle.std.proofs.lemmas.Bool.Decides.{nat_tests}
use Rattle.px_core.specs.declared.surface.Size.{Size}
use Rattle.px_core.specs.declared.rectangle.Rect.{Rect}
use Rattle.px_core.specs.Picture.{item, pixel_in, rows_of}
use Rattle.px_core.specs.Rectangle.{boxed, is_inside}
use Rattle.px_core.proofs.Pictures.{pixel-rows_of}
use Rattle.draw_ops.specs.Formulas.{shifted}
use Rattle.client_picture.specs.declared.corner.Corner.{Corner}
use Rattle.client_picture.specs.declared.part.Part.{Part}
use Rattle.client_picture.specs.Parts.{in_part, IsWithinRect}
use Rattle.client_picture.specs.Sources.{IsCorner, Covers, IsSourceInside}

-- what a rectangle inside a picture keeps
pub record IsOn (w h : ℕ) (r : Rect) : Type 0 where
  pub left : pos 0 ≤ℤ r.x
  pub right : (r.x +ℤ pos r.w) ≤ℤ pos w
  pub above : pos 0 ≤ℤ r.y
  pub below : (r.y +ℤ pos r.h) ≤ℤ pos h

int_le_is : (a b : ℤ) → int_le a b ≡ true → a ≤ℤ b
int_le_is a b h = omega (arith, ints, h)

pub is_on : (size : Size) (r : Rect) → is_inside size r ≡ true → IsOn size.w size.h r
is_on size r h =
    let p = and_parts (int_le (pos 0) r.x && int_le (r.x +ℤ pos r.w) (pos size.w)) (int_le (pos 0) r.y && int_le (r.y +ℤ pos r.h) (pos size.h)) h in
    let c = and_parts (int_le (pos 0) r.x) (int_le (r.x +ℤ pos r.w) (pos size.w)) p.0 in
    let d = and_parts (int_le (pos 0) r.y) (int_le (r.y +ℤ pos r.h) (pos size.h)) p.1 in
    record { left = int_le_is _ _ c.0; right = int_le_is _ _ c.1; above = int_le_is _ _ d.0; below = int_le_is _ _ d.1 }

-- the same corner in other words
pub corner_is : (r : Rect) (sx sy tx ty : ℤ) (part : Part) (from : Corner) → IsCorner r sx sy part from → sx ≡ tx → sy ≡ ty → IsCorner r tx ty part from
corner_is r sx sy tx ty part from h ex ey = record { x = h.x ∙ ap (λ z. (pos part.x -ℤ r.x) +ℤ z) ex; y = h.y ∙ ap (λ z. (pos part.y -ℤ r.y) +ℤ z) ey }

rows_fit : (w a h : ℕ) → a ≤ h → w * a ≤ w * h
rows_fit w a h le = grind (arith, le)

module _ (w h : ℕ) (r : Rect) (sx sy : ℤ) (part : Part) (from : Corner) (corner : IsCorner r sx sy part from) (on : IsOn w h (boxed sx sy r.w r.h)) (within : IsWithinRect r part) where
  columns_fit : from.x + part.w ≤ w
  columns_fit = omega (arith, ints, on.right, corner.x, within.right)

  lines_fit : from.y + part.h ≤ h
  lines_fit = omega (arith, ints, on.below, corner.y, within.below)

  pub covers_is : (count : ℕ) → count ≡ w * h → w ≤ 65535 → h ≤ 65535 → Covers part w count from
  covers_is count e wide high = let fit = rows_fit w (from.y + part.h) h lines_fit in record {
    columns = columns_fit;
    rows = omega (arith, fit, e);
    narrow = wide;
    low = omega (arith, lines_fit, high);
  }

  pub source_inside : (size : Size) → size.w ≡ w → size.h ≡ h → IsSourceInside size part from
  source_inside size ew eh = record { columns = omega (arith, columns_fit, ew); rows = omega (arith, lines_fit, eh) }

  -- the pixel that belongs to a pixel of the part
  pub shifted_is : {A : Type 0} (ps : List A) (other : A) (x y : ℕ) → in_part part x y ≡ true
      → shifted (rows_of w h ps) other r sx sy (pos x) (pos y) ≡ item ps (w * (from.y + (y - part.y)) + (from.x + (x - part.x))) other
  shifted_is ps other x y is_in =
      let left : part.x ≤ x = grind (arith, nat_tests, is_in) in
      let right : x < part.x + part.w = grind (arith, nat_tests, is_in) in
      let above : part.y ≤ y = grind (arith, nat_tests, is_in) in
      let below : y < part.y + part.h = grind (arith, nat_tests, is_in) in
      let u = from.x + (x - part.x) in
      let v = from.y + (y - part.y) in
      let eu : (pos x -ℤ r.x) +ℤ sx ≡ pos (from.x + (x - part.x)) = omega (arith, ints, left, corner.x) in
      let ev : (pos y -ℤ r.y) +ℤ sy ≡ pos (from.y + (y - part.y)) = omega (arith, ints, above, corner.y) in
      ap (λ z. pixel_in (rows_of w h ps) other z ((pos y -ℤ r.y) +ℤ sy)) eu ∙ ap (λ z. pixel_in (rows_of w h ps) other (pos u) z) ev
      ∙ pixel-rows_of w h ps u v other (omega (arith, left, right, columns_fit)) (omega (arith, above, below, lines_fit))
