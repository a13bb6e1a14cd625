-- Pixels as they go over the wire: a width of a multiple of four, each in the bytes of the viewer's depth, or packed.
use Rattle.std.specs.Prelude.{ℕ, ◌+◌, ◌-◌, ◌*◌, ◌/◌, nat_lt, Bool, true, false, List, ◌++◌, length, replicate, if◌then◌else◌}
use Rattle.px_core.specs.declared.depth.Depth.{Depth}
use Rattle.px_core.specs.Picture.{item}
use Rattle.px_core.specs.Pixels.{pixels_bytes}
use Rattle.run_lengths.specs.Packer.{packed}

-- ---- columns that are added

-- a number rounded up to a multiple of four
abbrev pub padded : ℕ → ℕ
padded n = 4 * ((n + 3) / 4)

-- a row of w pixels, with its last pixel repeated up to the padded width (profile)
abbrev pub padded_row : ℕ → List ℕ → List ℕ
padded_row w row = row ++ replicate (padded w - w) (item row (w - 1) 0)

-- ---- pixels in bytes

-- the bytes of pixels, and whether they are packed
pub record PixelData : Type 0 where
  pub is_packed : Bool
  pub bytes : List ℕ

abbrev pub pixel_data : Bool → List ℕ → PixelData
pixel_data is_packed bytes = record { is_packed = is_packed; bytes = bytes }

abbrev pub packed_if_shorter : List ℕ → List ℕ → PixelData
packed_if_shorter packed raw = if nat_lt (length packed) (length raw) then pixel_data true packed else pixel_data false raw

-- pixels of the depth from the bottom up in rows of w: packed exactly where the viewer confirmed bitmaps without a header and that is
-- shorter than their bytes
abbrev pub data_of : Depth → Bool → ℕ → List ℕ → PixelData
data_of depth false w pixels = pixel_data false (pixels_bytes depth pixels)
data_of depth true w pixels = packed_if_shorter (packed depth w pixels) (pixels_bytes depth pixels)
