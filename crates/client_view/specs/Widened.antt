-- Colours of a depth as colours of 24 bits, 65536 * red + 256 * green + blue; bits that the depth doesn't have are 0.
use Rattle.std.specs.Prelude.{ℕ, List, map, Option, option_map}
use Rattle.px_core.specs.declared.depth.Depth.{Depth}
use Rattle.px_core.specs.declared.depth.Depth.TheVariants.{Bits24, Bits16}
use Rattle.px_core.specs.Depth.{wide_color}

abbrev pub widened : Depth → ℕ → ℕ
widened Bits24 color = color
widened Bits16 color = wide_color color

-- a pixel that may be unknown, and a picture of such
abbrev pub widened_pixel : Depth → Option ℕ → Option ℕ
widened_pixel depth pixel = option_map (widened depth) pixel

abbrev pub widened_picture : Depth → List (Option ℕ) → List (Option ℕ)
widened_picture depth picture = map (widened_pixel depth) picture
