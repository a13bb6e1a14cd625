-- Rectangles as sets of pixels.
use Rattle.std.specs.Prelude.{⊤, ℕ, ◌*◌, ◌/◌, ◌%◌, ◌==◌, nat_le, ◌≤◌, Bool, false, ◌&&◌, List, Option, Some, None, if◌then◌else◌}
use Rattle.std.specs.Prelude.{ℤ, pos, negsuc, ◌+ℤ◌, ◌-ℤ◌, ◌≤ℤ◌, int_le, int_lt}
use Rattle.std.specs.Int.{int_min, int_max}
use Rattle.px_core.specs.declared.surface.Size.{Size}
use Rattle.px_core.specs.declared.rectangle.Rect.{Rect}
use Rattle.px_core.specs.Picture.{Area, everywhere, nat_of, listed, rows_of, pixel_in}

abbrev pub boxed : ℤ → ℤ → ℕ → ℕ → Rect
boxed x y w h = record { x = x; y = y; w = w; h = h }

-- whether a number is one of the n from a number on
abbrev pub within : ℤ → ℕ → ℤ → Bool
within from n z = int_le from z && int_lt z (from +ℤ pos n)

-- the pixels of a rectangle
abbrev pub in_rect : Rect → Area
in_rect r x y = within r.x r.w x && within r.y r.h y

-- the pixels of a rectangle that may be missing, which has none then
abbrev pub in_optional_rect : Option Rect → Area
in_optional_rect None x y = false
in_optional_rect (Some r) x y = in_rect r x y

-- the pixels that a clip leaves: all of them without one
abbrev pub in_clip : Option Rect → Area
in_clip None = everywhere
in_clip (Some r) = in_rect r

-- whether a rectangle has a pixel
abbrev pub has_pixel : Rect → Bool
has_pixel r = nat_le 1 r.w && nat_le 1 r.h

-- a rectangle where it has a pixel, else none
abbrev pub if_pixels : Rect → Option Rect
if_pixels r = if has_pixel r then Some r else None

-- the rectangle of a whole picture
abbrev pub whole : Size → Rect
whole size = boxed (pos 0) (pos 0) size.w size.h

-- whether a rectangle lies inside a picture
abbrev pub is_inside : Size → Rect → Bool
is_inside size r = (int_le (pos 0) r.x && int_le (r.x +ℤ pos r.w) (pos size.w)) && (int_le (pos 0) r.y && int_le (r.y +ℤ pos r.h) (pos size.h))

-- how many numbers two stretches have in common
abbrev pub common_length : ℤ → ℕ → ℤ → ℕ → ℕ
common_length a m b n = nat_of (int_min (a +ℤ pos m) (b +ℤ pos n) -ℤ int_max a b)

-- the common pixels of two rectangles; without any, a side is 0
abbrev pub common : Rect → Rect → Rect
common a b = boxed (int_max a.x b.x) (int_max a.y b.y) (common_length a.x a.w b.x b.w) (common_length a.y a.h b.y b.h)

-- the smallest rectangle that has the pixels of both
abbrev pub joint : Rect → Rect → Rect
joint a b = boxed (int_min a.x b.x) (int_min a.y b.y)
    (nat_of (int_max (a.x +ℤ pos a.w) (b.x +ℤ pos b.w) -ℤ int_min a.x b.x)) (nat_of (int_max (a.y +ℤ pos a.h) (b.y +ℤ pos b.h) -ℤ int_min a.y b.y))

-- the part of a rectangle that a clip leaves
abbrev pub clipped : Rect → Option Rect → Rect
clipped r None = r
clipped r (Some clip) = common r clip

-- pixel k of a rectangle, row by row, in the rows of a picture
abbrev pub pixel_of : {A : Type 0} → List (List A) → A → Rect → ℕ → A
pixel_of rows other r k = pixel_in rows other (r.x +ℤ pos (k % r.w)) (r.y +ℤ pos (k / r.w))

-- the pixels of a rectangle inside a picture, row by row from the top
abbrev pub cut_out : {A : Type 0} → Size → List A → A → Rect → List A
cut_out size picture other r = listed (r.w * r.h) 0 (pixel_of (rows_of size.w size.h picture) other r)

-- a rectangle that calls may be given: its sides are at most 65,536 and its corner is between -65,536 and 65,536 both ways
pub record IsPlaced (r : Rect) : Type 0 where
  pub left : negsuc 65535 ≤ℤ r.x
  pub right : r.x ≤ℤ pos 65536
  pub above : negsuc 65535 ≤ℤ r.y
  pub below : r.y ≤ℤ pos 65536
  pub wide : r.w ≤ 65536
  pub high : r.h ≤ 65536

-- a clip that calls may be given
abbrev pub IsPlacedClip : Option Rect → Type 0
IsPlacedClip None = ⊤
IsPlacedClip (Some clip) = IsPlaced clip

-- a size that a session may have: its width is a multiple of four from 4 to 2,048, its height is 1 to 2,048 (profile)
abbrev pub is_session_size : ℕ → ℕ → Bool
is_session_size w h = (nat_le 4 w && nat_le w 2048) && ((nat_le 1 h && nat_le h 2048) && (w % 4 == 0))
