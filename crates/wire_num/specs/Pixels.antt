-- Pixels of three bytes each: blue, green, red.
use Rattle.std.specs.Prelude.{ℕ, List, [], ◌∷◌, flat_map}
use Rattle.byteorder.specs.Endian.{little_bytes}
use Rattle.wire_num.specs.Number.{little_value}

-- a pixel as bytes
abbrev pub pixel_bytes : ℕ → List ℕ
pixel_bytes color = little_bytes 3 color

-- pixels one after the other
abbrev pub pixels_bytes : List ℕ → List ℕ
pixels_bytes pixels = flat_map pixel_bytes pixels

-- the pixels of bytes; one or two bytes at their end are no pixel
abbrev pub pixels_of : List ℕ → List ℕ
pixels_of [] = []
pixels_of (b ∷ []) = []
pixels_of (b ∷ g ∷ []) = []
pixels_of (b ∷ g ∷ r ∷ bs) = little_value (b ∷ g ∷ r ∷ []) ∷ pixels_of bs
