-- Pixels of as many bytes as the depth has, the lowest byte first: of 24 bits blue, green, red.
use Rattle.std.specs.Prelude.{ℕ, ◌^◌, nat_lt, Bool, true, ◌&&◌, List, [], ◌∷◌, flat_map}
use Rattle.byteorder.specs.Endian.{little_bytes}
use Rattle.wire_num.specs.Number.{little_value}
use Rattle.px_core.specs.declared.depth.Depth.{Depth}
use Rattle.px_core.specs.declared.depth.Depth.TheVariants.{Bits24, Bits16}
use Rattle.px_core.specs.Depth.{bits_in, bytes_in}

-- a pixel as bytes
abbrev pub pixel_bytes : Depth → ℕ → List ℕ
pixel_bytes d color = little_bytes (bytes_in d) color

-- pixels one after the other
abbrev pub pixels_bytes : Depth → List ℕ → List ℕ
pixels_bytes d pixels = flat_map (pixel_bytes d) pixels

-- the pixels of bytes; bytes at their end that make no pixel are none
abbrev pub pixels_of_3 : List ℕ → List ℕ
pixels_of_3 [] = []
pixels_of_3 (b ∷ []) = []
pixels_of_3 (b ∷ g ∷ []) = []
pixels_of_3 (b ∷ g ∷ r ∷ bs) = little_value (b ∷ g ∷ r ∷ []) ∷ pixels_of_3 bs

abbrev pub pixels_of_2 : List ℕ → List ℕ
pixels_of_2 [] = []
pixels_of_2 (l ∷ []) = []
pixels_of_2 (l ∷ h ∷ bs) = little_value (l ∷ h ∷ []) ∷ pixels_of_2 bs

abbrev pub pixels_of : Depth → List ℕ → List ℕ
pixels_of Bits24 bs = pixels_of_3 bs
pixels_of Bits16 bs = pixels_of_2 bs

-- a pixel of the depth
abbrev pub is_pixel : Depth → ℕ → Bool
is_pixel d c = nat_lt c (2 ^ bits_in d)

abbrev pub are_pixels : Depth → List ℕ → Bool
are_pixels d [] = true
are_pixels d (c ∷ cs) = is_pixel d c && are_pixels d cs
