-- Raster operations, images and palettes at a depth.
use Rattle.std.specs.Prelude.{ℕ, Option, Some}
use Rattle.px_core.specs.declared.depth.Depth.{Depth}
use Rattle.px_core.specs.declared.depth.Depth.TheVariants.{Bits24, Bits16}
use Rattle.px_core.specs.Depth.{shown_colors}
use Rattle.rop3_core.specs.Rop3.{raster_bits, ternary_raster, is_pattern_needed, is_source_needed, is_destination_needed}
use Rattle.rop3_core.specs.Palette.{Palette, over_operand}
use Rattle.draw_ops.specs.Content.{ImageOf}

-- an image as a viewer of this depth is shown it
abbrev pub shown_image : Depth → ImageOf → ImageOf
shown_image d image = record image { pixels = shown_colors d image.pixels }

-- the raster operation on as many bits
abbrev pub raster_at : Depth → ℕ → ℕ → ℕ → ℕ → ℕ
raster_at Bits24 code p s o = ternary_raster code p s o
raster_at Bits16 code p s o = raster_bits 16 code p s o

-- the same over colours that may be unknown: unknown where the code depends on an operand that is unknown
abbrev pub maybe_raster_at : Depth → ℕ → Option ℕ → Option ℕ → Option ℕ → Option ℕ
maybe_raster_at d code p s o =
    over_operand is_pattern_needed code p (λ m. over_operand is_source_needed code s
    (λ n. over_operand is_destination_needed code o (λ k. Some (raster_at d code m n k))))

-- the colours of a client of this depth, and those of a session whose every colour is cut
abbrev pub client_colors_at : Depth → Palette (Option ℕ)
client_colors_at d = record { known = Some; mixed = maybe_raster_at d }

abbrev pub cut_colors_at : Depth → Palette ℕ
cut_colors_at d = record { known = λ c. c; mixed = raster_at d }
