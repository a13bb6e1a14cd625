-- Parts of a picture, and pictures of which an area was painted anew.
use Rattle.std.specs.Prelude.{◌≡◌, ℕ, ◌+◌, ◌<◌, ◌≤◌, nat_le, nat_lt, Bool, false, ◌&&◌, ℤ, pos, ◌+ℤ◌, ◌≤ℤ◌, List, length, Option, Some, None, if◌then◌else◌}
use Rattle.px_core.specs.declared.surface.Size.{Size}
use Rattle.px_core.specs.declared.rectangle.Rect.{Rect}
use Rattle.px_core.specs.Picture.{pixel_count, pixel_at}
use Rattle.client_picture.specs.declared.frame.Frame.{Frame}
use Rattle.client_picture.specs.declared.part.Part.{Part}

-- ---- frames

-- a set of pixels of a picture, by column and row
abbrev pub Pixels : Type 0
Pixels = ℕ → ℕ → Bool

-- the pixels of a frame
abbrev pub in_frame : Frame → Pixels
in_frame f x y = (nat_le f.left x && nat_lt x f.right) && (nat_le f.top y && nat_lt y f.bottom)

-- the edge on a picture's side that stands for an edge anywhere
pub record IsEdge (limit : ℕ) (z : ℤ) (n : ℕ) : Type 0 where
  pub low : n ≤ limit
  pub before : n < limit → z ≤ℤ pos n
  pub behind : 0 < n → pos n ≤ℤ z

-- a frame lies on a picture
pub record LiesOn (size : Size) (f : Frame) : Type 0 where
  pub right : f.right ≤ size.w
  pub bottom : f.bottom ≤ size.h

-- what is seen of a rectangle on a picture
pub record IsSeen (size : Size) (x y : ℤ) (w h : ℕ) (f : Frame) : Type 0 where
  pub left : IsEdge size.w x f.left
  pub right : IsEdge size.w (x +ℤ pos w) f.right
  pub top : IsEdge size.h y f.top
  pub bottom : IsEdge size.h (y +ℤ pos h) f.bottom

-- ---- parts

abbrev pub part_at : ℕ → ℕ → ℕ → ℕ → Part
part_at x y w h = record { x = x; y = y; w = w; h = h }

-- the pixels of a part
abbrev pub in_part : Part → Pixels
in_part part x y = (nat_le part.x x && nat_lt x (part.x + part.w)) && (nat_le part.y y && nat_lt y (part.y + part.h))

-- the pixels of a part that may be missing, which has none then
abbrev pub in_optional_part : Option Part → Pixels
in_optional_part None x y = false
in_optional_part (Some part) x y = in_part part x y

-- a part lies inside a picture
pub record IsInside (size : Size) (part : Part) : Type 0 where
  pub columns : part.x + part.w ≤ size.w
  pub rows : part.y + part.h ≤ size.h

-- a part lies on a picture that a client may have
pub record IsOnSmall (part : Part) : Type 0 where
  pub columns : part.x + part.w ≤ 65535
  pub rows : part.y + part.h ≤ 65535

-- a part lies within a frame
pub record IsWithin (f : Frame) (part : Part) : Type 0 where
  pub left : f.left ≤ part.x
  pub right : part.x + part.w ≤ f.right
  pub above : f.top ≤ part.y
  pub below : part.y + part.h ≤ f.bottom
  pub wide : 0 < part.w
  pub high : 0 < part.h

-- a part has pixels and lies within a rectangle
pub record IsWithinRect (r : Rect) (part : Part) : Type 0 where
  pub left : r.x ≤ℤ pos part.x
  pub right : pos (part.x + part.w) ≤ℤ (r.x +ℤ pos r.w)
  pub above : r.y ≤ℤ pos part.y
  pub below : pos (part.y + part.h) ≤ℤ (r.y +ℤ pos r.h)
  pub wide : 0 < part.w
  pub high : 0 < part.h

-- ---- pictures

-- no client's picture is larger: a side has two bytes
pub record IsSmall (size : Size) : Type 0 where
  pub wide : size.w ≤ 65535
  pub high : size.h ≤ 65535

-- a list of pixels is a picture of a size
pub record IsCanvas (size : Size) (ps : List (Option ℕ)) : Type 0 where
  pub small : IsSmall size
  pub sized : length ps ≡ pixel_count size

-- a picture in which each pixel of an area became what a function of its column and row says, and each other one stayed
pub record IsRepainted (size : Size) (area : Pixels) (color : ℕ → ℕ → Option ℕ) (old new : List (Option ℕ)) : Type 0 where
  pub sized : length new ≡ length old
  pub pixel : (x y : ℕ) → x < size.w → y < size.h → pixel_at size new None x y ≡ (if area x y then color x y else pixel_at size old None x y)
