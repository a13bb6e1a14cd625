-- Parts of a picture, and pictures of which an area was painted anew.
use Rattle.std.specs.Prelude.{◌≡◌, ℕ, ◌+◌, ◌*◌, ◌<◌, ◌≤◌, nat_le, nat_lt, Bool, false, ◌&&◌, pos, ◌+ℤ◌, ◌≤ℤ◌, List, length, Option, Some, None, if◌then◌else◌}
use Rattle.px_core.specs.declared.rectangle.Rect.{Rect}
use Rattle.px_core.specs.declared.surface.Size.{Size}
use Rattle.px_core.specs.Picture.{pixel_count, pixel_at}
use Rattle.surface_parts.specs.declared.part.Part.{Part}

-- a set of pixels of a picture, by column and row
abbrev pub Pixels : Type 0
Pixels = ℕ → ℕ → Bool

abbrev pub part_at : ℕ → ℕ → ℕ → ℕ → Part
part_at x y w h = record { x = x; y = y; w = w; h = h }

-- the pixels of a part
abbrev pub in_part : Part → Pixels
in_part part x y = (nat_le part.x x && nat_lt x (part.x + part.w)) && (nat_le part.y y && nat_lt y (part.y + part.h))

-- no session's picture is larger
pub record IsSmall (size : Size) : Type 0 where
  pub wide : size.w ≤ 2048
  pub high : size.h ≤ 2048

-- a list of pixels is a picture of a size that no session's is above
pub record IsCanvas (size : Size) (ps : List ℕ) : Type 0 where
  pub small : IsSmall size
  pub sized : length ps ≡ pixel_count size

-- a part lies inside a picture
pub record IsInside (size : Size) (part : Part) : Type 0 where
  pub columns : part.x + part.w ≤ size.w
  pub rows : part.y + part.h ≤ size.h

-- a picture in which each pixel of an area became what a function of its column and row says, and each other one stayed
pub record IsRepainted (size : Size) (area : Pixels) (color : ℕ → ℕ → ℕ) (old new : List ℕ) : Type 0 where
  pub sized : length new ≡ length old
  pub pixel : (x y : ℕ) → x < size.w → y < size.h → pixel_at size new 0 x y ≡ (if area x y then color x y else pixel_at size old 0 x y)

-- the pixels of a part that may be missing, which has none then
abbrev pub in_optional_part : Option Part → Pixels
in_optional_part None x y = false
in_optional_part (Some part) x y = in_part part x y

-- a rectangle is a part
pub record IsRectPart (rect : Rect) (part : Part) : Type 0 where
  pub x : rect.x ≡ pos part.x
  pub y : rect.y ≡ pos part.y
  pub w : rect.w ≡ part.w
  pub h : rect.h ≡ part.h

-- a list holds the first rows of a part of a picture, one after the other
pub record AreFirstRows (size : Size) (ps : List ℕ) (part : Part) (rows : ℕ) (cut : List ℕ) : Type 0 where
  pub sized : length cut ≡ part.w * rows
  pub pixel : (u v : ℕ) → u < part.w → v < rows → pixel_at (record { w = part.w; h = rows }) cut 0 u v ≡ pixel_at size ps 0 (part.x + u) (part.y + v)

-- a part lies within a rectangle
pub record IsWithinRect (rect : Rect) (part : Part) : Type 0 where
  pub left : rect.x ≤ℤ pos part.x
  pub right : pos (part.x + part.w) ≤ℤ (rect.x +ℤ pos rect.w)
  pub above : rect.y ≤ℤ pos part.y
  pub below : pos (part.y + part.h) ≤ℤ (rect.y +ℤ pos rect.h)
