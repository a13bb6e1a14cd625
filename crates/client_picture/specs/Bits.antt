-- The bits of a glyph's rows, as they are read from a part of its cell.
use Rattle.std.specs.Prelude.{ℤ, pos, negsuc, ◌≤ℤ◌, ℕ, ◌+◌, ◌-◌, ◌*◌, ◌/◌, ◌%◌, ◌^◌, ◌==◌, ◌≤◌, Bool, List, [], ◌∷◌, get_or, Option, Some, None, if◌then◌else◌}
use Rattle.px_core.specs.declared.surface.Size.{Size}
use Rattle.px_core.specs.Picture.{pixel_at}
use Rattle.client_picture.specs.declared.part.Part.{Part}
use Rattle.client_picture.specs.declared.glyphs.Bits.{Bits}

-- the bit of a column and a row, where the rows have so many bytes; the highest bit of a byte is on the left, and bits past the last byte are 0
abbrev pub is_ink : List ℕ → ℕ → ℕ → ℕ → Bool
is_ink bytes row_bytes column row = (get_or bytes (row_bytes * row + column / 8) 0 / 2 ^ (7 - column % 8)) % 2 == 1

-- a pixel of a part after its bit was drawn in a colour over the old picture
abbrev pub ink_color : Size → List (Option ℕ) → Part → Bits → ℕ → ℕ → ℕ → Option ℕ
ink_color size old part bits color x y =
    if is_ink bits.bytes.now bits.row_bytes (bits.from.x + (x - part.x)) (bits.from.y + (y - part.y)) then Some color else pixel_at size old None x y

-- a glyph's rows and the place in it are as small as two bytes say
pub record AreSmall (part : Part) (bits : Bits) : Type 0 where
  pub columns : bits.from.x + part.w ≤ 65535
  pub rows : bits.from.y + part.h ≤ 65535
  pub narrow : bits.row_bytes ≤ 8192

-- where a pen may stand: it begins where four bytes say, and moves to the right
pub record IsPenNear (x y : ℤ) : Type 0 where
  pub left : negsuc 2147483647 ≤ℤ x
  pub right : x ≤ℤ pos 4294967296
  pub above : negsuc 2147483647 ≤ℤ y
  pub below : y ≤ℤ pos 4294967296

-- the pairs of bytes of a run; an odd byte at its end is left out
abbrev pub pairs_in : List ℕ → List (ℕ × ℕ)
pairs_in [] = []
pairs_in (i ∷ []) = []
pairs_in (i ∷ d ∷ bytes) = (i, d) ∷ pairs_in bytes
