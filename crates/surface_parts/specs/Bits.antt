-- The bits of a glyph's rows, as they are read from a part of its cell.
use Rattle.std.specs.Prelude.{ℕ, ◌+◌, ◌-◌, ◌*◌, ◌/◌, ◌%◌, ◌^◌, ◌==◌, ◌≤◌, Bool, ℤ, pos, negsuc, ◌≤ℤ◌, List, length, get_or, if◌then◌else◌}
use Rattle.px_core.specs.declared.surface.Size.{Size}
use Rattle.px_core.specs.Picture.{pixel_at}
use Rattle.surface_parts.specs.declared.part.Part.{Part}
use Rattle.surface_parts.specs.declared.glyphs.Bits.{Bits}

-- the bit of a column in the bytes of one row; the highest bit of a byte is on the left
abbrev pub is_row_bit : List ℕ → ℕ → Bool
is_row_bit bytes column = (get_or bytes (column / 8) 0 / 2 ^ (7 - column % 8)) % 2 == 1

-- the bit of a column and a row
abbrev pub is_ink : List ℕ → ℕ → ℕ → ℕ → Bool
is_ink bytes row_bytes column row = (get_or bytes (row_bytes * row + column / 8) 0 / 2 ^ (7 - column % 8)) % 2 == 1

-- a pixel of a part after its bit was drawn in a colour over the old picture
abbrev pub ink_color : Size → List ℕ → Part → Bits → ℕ → ℕ → ℕ → ℕ
ink_color size old part bits color x y =
    if is_ink bits.bytes.now bits.row_bytes (bits.column + (x - part.x)) (bits.row + (y - part.y)) then color else pixel_at size old 0 x y

-- there is a bit for each pixel of a part
pub record HasBits (part : Part) (bits : Bits) : Type 0 where
  pub columns : bits.column + part.w ≤ 8 * bits.row_bytes
  pub rows : bits.row_bytes * (bits.row + part.h) ≤ length bits.bytes.now
  pub narrow : bits.row_bytes ≤ 8
  pub low : bits.row + part.h ≤ 64

-- a pen stands where a text's may, seen from the picture or from one of its tiles
pub record IsPenNear (x y : ℤ) : Type 0 where
  pub left : negsuc 6079 ≤ℤ x
  pub right : x ≤ℤ pos 30000
  pub above : negsuc 6079 ≤ℤ y
  pub below : y ≤ℤ pos 30000
