-- Depths: what is shown of colours, their pixels on the wire, and operations on 16 bits.
use Rattle.std.proofs.Common.{◌≡◌, [], ◌∷◌, refl}
use Rattle.px_core.specs.declared.depth.Depth.TheVariants.{Bits24, Bits16}
use Rattle.px_core.specs.Depth.{cut_color, wide_color, shown, white, brush_style, brush_format, brush_bytes}
use Rattle.px_core.specs.Pixels.{pixel_bytes, pixels_of}
use Rattle.draw_ops.specs.Depths.{raster_at}

-- wrong: red and blue swapped, or five bits of green
red_green_and_blue_are_cut : shown Bits16 0x123456 ≡ 0x11AA
unfolding cut_color
red_green_and_blue_are_cut = refl

-- wrong: a cut rounds up
nothing_is_rounded_up : shown Bits16 0x070307 ≡ 0
unfolding cut_color
nothing_is_rounded_up = refl

-- wrong: 24 bits are cut too
nothing_is_cut_at_24_bits : shown Bits24 0x070307 ≡ 0x070307
nothing_is_cut_at_24_bits = refl

-- wrong: the high bits are repeated in the low ones
low_bits_of_a_wide_color_are_0 : wide_color 0xFFFF ≡ 0xF8FCF8
unfolding wide_color
low_bits_of_a_wide_color_are_0 = refl

a_wide_color : wide_color 0x11AA ≡ 0x103450
unfolding wide_color
a_wide_color = refl

-- no bit past the 16 is set
-- wrong: the operation sets bits past the 16
an_inversion_of_black_at_16_bits : raster_at Bits16 0x55 0 0 0 ≡ 0xFFFF
an_inversion_of_black_at_16_bits = refl

-- wrong: white stays FFFFFF
white_at_16_bits : white Bits16 ≡ 0xFFFF
white_at_16_bits = refl

-- wrong: the high byte of a pixel first
low_byte_first : pixel_bytes Bits16 0x11AA ≡ 0xAA ∷ 0x11 ∷ []
low_byte_first = refl

blue_first : pixel_bytes Bits24 0x123456 ≡ 0x56 ∷ 0x34 ∷ 0x12 ∷ []
blue_first = refl

-- wrong: one byte is a pixel at the end
a_byte_at_the_end_is_no_pixel : pixels_of Bits16 (0xAA ∷ 0x11 ∷ 0x01 ∷ []) ≡ 0x11AA ∷ []
a_byte_at_the_end_is_no_pixel = refl

-- the style of a cached brush, the format of its pixels, and their bytes
-- wrong: the style 85, the format 5, or 192 bytes at both depths
a_cached_brush_at_16_bits : brush_style Bits16 ∷ brush_format Bits16 ∷ brush_bytes Bits16 ∷ [] ≡ 0x84 ∷ 0x04 ∷ 0x80 ∷ []
a_cached_brush_at_16_bits = refl

a_cached_brush_at_24_bits : brush_style Bits24 ∷ brush_format Bits24 ∷ brush_bytes Bits24 ∷ [] ≡ 0x85 ∷ 0x05 ∷ 0xC0 ∷ []
a_cached_brush_at_24_bits = refl
