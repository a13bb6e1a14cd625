-- Stretches of rows that were changed in place, each pixel by its place in the stretch and by what it was; and rows of colours.
use Rattle.std.specs.Prelude.{ℕ, ◌+◌, ◌-◌, ◌<◌, ◌^◌, List, length, get_or}
use Rattle.px_core.specs.declared.surface.Size.{Size}
use Rattle.px_core.specs.Picture.{pixel_at}
use Rattle.rop3_core.specs.Rop3.{ternary_raster}
use Rattle.surface_parts.specs.declared.part.Part.{Part}

-- what a raster operation makes of a pixel of a row, with rows of pattern and source that begin at column x, over the old picture
abbrev pub row_mixed : Size → List ℕ → ℕ → List ℕ → List ℕ → ℕ → ℕ → ℕ → ℕ
row_mixed size old rop pattern source x u v = ternary_raster rop (get_or pattern (u - x) 0) (get_or source (u - x) 0) (pixel_at size old 0 u v)

-- each word of a row is a colour
abbrev pub IsColored : List ℕ → Type 0
IsColored row = (k : ℕ) → k < length row → get_or row k 0 < 2 ^ 24

-- each pixel of a picture is a colour
abbrev pub HasColoredPixels : Size → List ℕ → Type 0
HasColoredPixels size picture = (x y : ℕ) → x < size.w → y < size.h → pixel_at size picture 0 x y < 2 ^ 24

-- a part as a picture of its own
abbrev pub sides_of : Part → Size
sides_of part = record { w = part.w; h = part.h }

-- the pixel of a picture that belongs to a place of such a picture
abbrev pub cut_color : Size → List ℕ → Part → ℕ → ℕ → ℕ
cut_color size ps part u v = pixel_at size ps 0 (part.x + u) (part.y + v)
