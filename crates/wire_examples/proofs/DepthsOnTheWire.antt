-- Orders, cache orders and tiles of a viewer at 16 bits: what they are written as, and what it makes of them.
use Rattle.std.proofs.Common.{◌≡◌, ℕ, List, [], ◌∷◌, ◌++◌, refl, Some, None, replicate, pos, true, false}
use Rattle.std.specs.Prelude.{Result}
use Rattle.px_core.specs.declared.depth.Depth.TheVariants.{Bits16}
use Rattle.px_core.specs.declared.rectangle.Rect.{Rect}
use Rattle.px_core.specs.Rectangle.{boxed}
use Rattle.px_core.specs.Depth.{cut_color}
use Rattle.rop3_core.specs.Rop3.{ternary_raster}
use Rattle.caps_sets.specs.declared.confirmed.Confirmed.{Confirmed}
use Rattle.order_fields.specs.OrderTable.{Registers, first_registers, registers_after}
use Rattle.order_fields.specs.OrderDelta.{order_bytes}
use Rattle.order_fields.specs.NamedDrawing.{NamedDrawing, drawing_fields}
use Rattle.order_fields.specs.NamedDrawing.NamedDrawing.{Opaque, Pat, Glyphs}
use Rattle.order_means.specs.FrameMarks.{Refusal}
use Rattle.order_means.specs.UpdateBodies.{tile_packet}
use Rattle.order_means.specs.CacheOrders.{cache_bitmap_bytes, cache_brush_bytes}
use Rattle.order_means.specs.ClientState.Fault.{Broken, Oversized}
use Rattle.wire_examples.proofs.Streams.{Made, viewer, packet, orders, mark, filled_with, cached_brush, made_by, makes, picture, refused}

-- ---- what is written

abbrev rect : ℕ → ℕ → ℕ → ℕ → Rect
rect x y w h = boxed (pos x) (pos y) w h

-- the rectangle of a run, and of drawings that have none
abbrev run_rect : Rect
run_rect = rect 4 5 24 1

-- the bytes of a drawing, and the registers after it
abbrev written : Registers → NamedDrawing → List ℕ
written regs d = order_bytes regs true (drawing_fields Bits16 run_rect d) None

abbrev after : Registers → NamedDrawing → Registers
after regs d = registers_after regs (drawing_fields Bits16 run_rect d) None

abbrev fill : ℕ → ℕ → ℕ → ℕ → ℕ → NamedDrawing
fill x y w h color = Opaque (rect x y w h) color

abbrev after_black : Registers
after_black = after first_registers (fill 0 0 64 48 0)

-- red is F800, its low byte first; the third byte stays 0, so it isn't written
-- wrong: a colour is written with its high byte first
-- wrong: a colour stands in the last two bytes of its field
pub a_red_fill_at_16_bits : written after_black (fill 10 20 5 5 0xFF0000) ≡ 0x11 ∷ 0x2F ∷ 0x0A ∷ 0x14 ∷ 0xC5 ∷ 0xD5 ∷ 0xF8 ∷ []
unfolding cut_color
a_red_fill_at_16_bits = refl

-- 123456 and 113355 are both cut to 11AA, so no colour is written anew
-- wrong: a colour of an order isn't cut
pub a_color_that_is_cut_to_the_last_one : written (after first_registers (fill 0 0 4 4 0x123456)) (fill 8 0 4 4 0x113355) ≡ 0x11 ∷ 0x11 ∷ 0x08 ∷ 0x8A ∷ []
unfolding cut_color
a_color_that_is_cut_to_the_last_one = refl

pub a_text_at_16_bits : written after_black (Glyphs 0 (pos 4) (pos 5) 0xC8D0D8 (0 ∷ 0 ∷ 1 ∷ 8 ∷ 2 ∷ 8 ∷ [])) ≡ 0x09 ∷ 0x1B ∷ 0xDA ∷ 0x03 ∷ 0x38 ∷ 0x03 ∷ 0x01 ∷ 0x9B ∷ 0xCE ∷ 0x00 ∷ 0x04 ∷ 0x00 ∷ 0x05 ∷ 0x00 ∷ 0x1C ∷ 0x00 ∷ 0x06 ∷ 0x00 ∷ 0x04 ∷ 0x00 ∷ 0x05 ∷ 0x00 ∷ 0x06 ∷ 0x00 ∷ 0x00 ∷ 0x01 ∷ 0x08 ∷ 0x02 ∷ 0x08 ∷ []
unfolding cut_color
a_text_at_16_bits = refl

-- style 84, entry 3
pub a_pattern_at_16_bits : written after_black (Pat (rect 0 0 64 48) 0xF0 3) ≡ 0x19 ∷ 0x01 ∷ 0x1C ∷ 0x06 ∷ 0x40 ∷ 0x30 ∷ 0xF0 ∷ 0x84 ∷ 0x03 ∷ []
a_pattern_at_16_bits = refl

-- format 04, 80 (hexadecimal) bytes
-- wrong: a cached brush's pixels aren't cut
pub a_cached_brush_at_16_bits : cache_brush_bytes Bits16 3 (replicate 64 0xFF0000) ≡ 0x03 ∷ 0x7F ∷ 0x00 ∷ 0x00 ∷ 0x00 ∷ 0x07 ∷ 0x03 ∷ 0x04 ∷ 0x08 ∷ 0x08 ∷ 0x00 ∷ 0x80 ∷ 0x00 ∷ 0xF8 ∷ 0x00 ∷ 0xF8 ∷ 0x00 ∷ 0xF8 ∷ 0x00 ∷ 0xF8 ∷ 0x00 ∷ 0xF8 ∷ 0x00 ∷ 0xF8 ∷ 0x00 ∷ 0xF8 ∷ 0x00 ∷ 0xF8 ∷ 0x00 ∷ 0xF8 ∷ 0x00 ∷ 0xF8 ∷ 0x00 ∷ 0xF8 ∷ 0x00 ∷ 0xF8 ∷ 0x00 ∷ 0xF8 ∷ 0x00 ∷ 0xF8 ∷ 0x00 ∷ 0xF8 ∷ 0x00 ∷ 0xF8 ∷ 0x00 ∷ 0xF8 ∷ 0x00 ∷ 0xF8 ∷ 0x00 ∷ 0xF8 ∷ 0x00 ∷ 0xF8 ∷ 0x00 ∷ 0xF8 ∷ 0x00 ∷ 0xF8 ∷ 0x00 ∷ 0xF8 ∷ 0x00 ∷ 0xF8 ∷ 0x00 ∷ 0xF8 ∷ 0x00 ∷ 0xF8 ∷ 0x00 ∷ 0xF8 ∷ 0x00 ∷ 0xF8 ∷ 0x00 ∷ 0xF8 ∷ 0x00 ∷ 0xF8 ∷ 0x00 ∷ 0xF8 ∷ 0x00 ∷ 0xF8 ∷ 0x00 ∷ 0xF8 ∷ 0x00 ∷ 0xF8 ∷ 0x00 ∷ 0xF8 ∷ 0x00 ∷ 0xF8 ∷ 0x00 ∷ 0xF8 ∷ 0x00 ∷ 0xF8 ∷ 0x00 ∷ 0xF8 ∷ 0x00 ∷ 0xF8 ∷ 0x00 ∷ 0xF8 ∷ 0x00 ∷ 0xF8 ∷ 0x00 ∷ 0xF8 ∷ 0x00 ∷ 0xF8 ∷ 0x00 ∷ 0xF8 ∷ 0x00 ∷ 0xF8 ∷ 0x00 ∷ 0xF8 ∷ 0x00 ∷ 0xF8 ∷ 0x00 ∷ 0xF8 ∷ 0x00 ∷ 0xF8 ∷ 0x00 ∷ 0xF8 ∷ 0x00 ∷ 0xF8 ∷ 0x00 ∷ 0xF8 ∷ 0x00 ∷ 0xF8 ∷ 0x00 ∷ 0xF8 ∷ 0x00 ∷ 0xF8 ∷ 0x00 ∷ 0xF8 ∷ 0x00 ∷ 0xF8 ∷ 0x00 ∷ 0xF8 ∷ 0x00 ∷ 0xF8 ∷ 0x00 ∷ 0xF8 ∷ 0x00 ∷ 0xF8 ∷ 0x00 ∷ 0xF8 ∷ 0x00 ∷ 0xF8 ∷ []
unfolding cut_color
a_cached_brush_at_16_bits = refl

-- wrong: a cached image's pixels aren't cut
pub a_raw_image_of_three_columns_at_16_bits : cache_bitmap_bytes Bits16 false 0 1 (record { w = 3; h = 2; pixels = 0xF80000 ∷ 0x00FC00 ∷ 0x0000F8 ∷ 0x123456 ∷ 0x113355 ∷ 0x070307 ∷ [] }) ≡ 0x03 ∷ 0x12 ∷ 0x00 ∷ 0x00 ∷ 0x00 ∷ 0x00 ∷ 0x00 ∷ 0x00 ∷ 0x04 ∷ 0x02 ∷ 0x10 ∷ 0x10 ∷ 0x00 ∷ 0x01 ∷ 0x00 ∷ 0xAA ∷ 0x11 ∷ 0x8A ∷ 0x11 ∷ 0x00 ∷ 0x00 ∷ 0x00 ∷ 0x00 ∷ 0x00 ∷ 0xF8 ∷ 0xE0 ∷ 0x07 ∷ 0x1F ∷ 0x00 ∷ 0x1F ∷ 0x00 ∷ []
unfolding cut_color
a_raw_image_of_three_columns_at_16_bits = refl

-- wrong: a cached bitmap says 24 bits for each pixel at both depths
pub a_packed_image_at_16_bits : cache_bitmap_bytes Bits16 true 2 0 (record { w = 64; h = 64; pixels = replicate 4096 0xFF0000 }) ≡ 0x03 ∷ 0x09 ∷ 0x00 ∷ 0x00 ∷ 0x04 ∷ 0x02 ∷ 0x02 ∷ 0x00 ∷ 0x40 ∷ 0x40 ∷ 0x10 ∷ 0x07 ∷ 0x00 ∷ 0x00 ∷ 0x00 ∷ 0x60 ∷ 0x20 ∷ 0x00 ∷ 0xF8 ∷ 0xF0 ∷ 0xC0 ∷ 0x0F ∷ []
unfolding cut_color
a_packed_image_at_16_bits = refl

-- four colours pack to nine bytes: more than the eight of 16 bits, and fewer than twelve
-- wrong: pixels go packed where that is fewer than three bytes a pixel
pub four_colors_go_raw_at_16_bits : cache_bitmap_bytes Bits16 true 0 0 (record { w = 4; h = 1; pixels = 0x123456 ∷ 0xFF0000 ∷ 0x00FF00 ∷ 0x0000FF ∷ [] }) ≡ 0x03 ∷ 0x0A ∷ 0x00 ∷ 0x00 ∷ 0x00 ∷ 0x00 ∷ 0x00 ∷ 0x00 ∷ 0x04 ∷ 0x01 ∷ 0x10 ∷ 0x08 ∷ 0x00 ∷ 0x00 ∷ 0x00 ∷ 0xAA ∷ 0x11 ∷ 0x00 ∷ 0xF8 ∷ 0xE0 ∷ 0x07 ∷ 0x1F ∷ 0x00 ∷ []
unfolding cut_color
four_colors_go_raw_at_16_bits = refl

-- wrong: a tile's pixels aren't cut
-- wrong: a rectangle says 24 bits for each pixel at both depths
pub a_packed_tile_at_16_bits : tile_packet Bits16 false true (rect 0 0 64 64) (replicate 4096 0xFF0000) ≡ 0x03 ∷ 0x00 ∷ 0x00 ∷ 0x3D ∷ 0x02 ∷ 0xF0 ∷ 0x80 ∷ 0x68 ∷ 0x00 ∷ 0x01 ∷ 0x03 ∷ 0xEB ∷ 0x70 ∷ 0x2F ∷ 0x2F ∷ 0x00 ∷ 0x17 ∷ 0x00 ∷ 0xEA ∷ 0x03 ∷ 0xEA ∷ 0x03 ∷ 0x01 ∷ 0x00 ∷ 0x00 ∷ 0x01 ∷ 0x21 ∷ 0x00 ∷ 0x02 ∷ 0x00 ∷ 0x00 ∷ 0x00 ∷ 0x01 ∷ 0x00 ∷ 0x01 ∷ 0x00 ∷ 0x00 ∷ 0x00 ∷ 0x00 ∷ 0x00 ∷ 0x3F ∷ 0x00 ∷ 0x3F ∷ 0x00 ∷ 0x40 ∷ 0x00 ∷ 0x40 ∷ 0x00 ∷ 0x10 ∷ 0x00 ∷ 0x01 ∷ 0x04 ∷ 0x07 ∷ 0x00 ∷ 0x60 ∷ 0x20 ∷ 0x00 ∷ 0xF8 ∷ 0xF0 ∷ 0xC0 ∷ 0x0F ∷ []
unfolding cut_color
a_packed_tile_at_16_bits = refl

-- ---- what a viewer at 16 bits makes of it

abbrev narrow : Confirmed
narrow = record (viewer false true) { depth = Bits16 }

abbrev makes_at_16 : List ℕ → Result Made Refusal
makes_at_16 bytes = made_by narrow bytes

-- wrong: a colour is read with its high byte first
pub fill_at_16_bits : makes_at_16 (orders 1 (filled_with 0x00 0xF8 0x00) ++ mark) ≡ picture 1 0 (replicate 32 (Some 0xF800))
fill_at_16_bits = refl

-- the third byte of a colour may be anything
-- wrong: the third byte of a colour is compared, or is part of it
pub third_byte_of_a_color_is_not_looked_at : makes_at_16 (orders 1 (filled_with 0x00 0xF8 0x7F) ++ mark) ≡ picture 1 0 (replicate 32 (Some 0xF800))
third_byte_of_a_color_is_not_looked_at = refl

-- but it must be there
pub third_byte_of_a_color_must_be_there : makes_at_16 (orders 1 (0x19 ∷ 0x0A ∷ 0x7C ∷ 0x08 ∷ 0x04 ∷ 0x00 ∷ 0xF8 ∷ [])) ≡ refused 47 Broken
third_byte_of_a_color_must_be_there = refl

-- registers keep all three: blue +80 alone is the same colour
-- wrong: a new client has 24 bits
pub third_byte_of_a_color_is_kept : makes_at_16 (orders 2 (filled_with 0x00 0xF8 0x7F ++ 0x01 ∷ 0x40 ∷ 0x80 ∷ []) ++ mark) ≡ picture 2 0 (replicate 32 (Some 0xF800))
third_byte_of_a_color_is_kept = refl

-- DstBlt: width +8, height +4, rop 55
-- wrong: a raster operation is on 24 bits at both depths
-- wrong: a client at 16 bits inverts 24 bits
pub black_inverted_at_16_bits : makes_at_16 (orders 2 (filled_with 0x00 0x00 0x00 ++ 0x19 ∷ 0x00 ∷ 0x1C ∷ 0x08 ∷ 0x04 ∷ 0x55 ∷ []) ++ mark) ≡ picture 2 0 (replicate 32 (Some 0xFFFF))
unfolding ternary_raster
black_inverted_at_16_bits = refl

-- 8 by 8 pixels of two equal bytes, rows from the bottom up
abbrev small_pixels : List ℕ
small_pixels = 0x00 ∷ 0x00 ∷ 0x01 ∷ 0x01 ∷ 0x02 ∷ 0x02 ∷ 0x03 ∷ 0x03 ∷ 0x04 ∷ 0x04 ∷ 0x05 ∷ 0x05 ∷ 0x06 ∷ 0x06 ∷ 0x07 ∷ 0x07 ∷ 0x08 ∷ 0x08 ∷ 0x09 ∷ 0x09 ∷ 0x0A ∷ 0x0A ∷ 0x0B ∷ 0x0B ∷ 0x0C ∷ 0x0C ∷ 0x0D ∷ 0x0D ∷ 0x0E ∷ 0x0E ∷ 0x0F ∷ 0x0F ∷ 0x10 ∷ 0x10 ∷ 0x11 ∷ 0x11 ∷ 0x12 ∷ 0x12 ∷ 0x13 ∷ 0x13 ∷ 0x14 ∷ 0x14 ∷ 0x15 ∷ 0x15 ∷ 0x16 ∷ 0x16 ∷ 0x17 ∷ 0x17 ∷ 0x18 ∷ 0x18 ∷ 0x19 ∷ 0x19 ∷ 0x1A ∷ 0x1A ∷ 0x1B ∷ 0x1B ∷ 0x1C ∷ 0x1C ∷ 0x1D ∷ 0x1D ∷ 0x1E ∷ 0x1E ∷ 0x1F ∷ 0x1F ∷ 0x20 ∷ 0x20 ∷ 0x21 ∷ 0x21 ∷ 0x22 ∷ 0x22 ∷ 0x23 ∷ 0x23 ∷ 0x24 ∷ 0x24 ∷ 0x25 ∷ 0x25 ∷ 0x26 ∷ 0x26 ∷ 0x27 ∷ 0x27 ∷ 0x28 ∷ 0x28 ∷ 0x29 ∷ 0x29 ∷ 0x2A ∷ 0x2A ∷ 0x2B ∷ 0x2B ∷ 0x2C ∷ 0x2C ∷ 0x2D ∷ 0x2D ∷ 0x2E ∷ 0x2E ∷ 0x2F ∷ 0x2F ∷ 0x30 ∷ 0x30 ∷ 0x31 ∷ 0x31 ∷ 0x32 ∷ 0x32 ∷ 0x33 ∷ 0x33 ∷ 0x34 ∷ 0x34 ∷ 0x35 ∷ 0x35 ∷ 0x36 ∷ 0x36 ∷ 0x37 ∷ 0x37 ∷ 0x38 ∷ 0x38 ∷ 0x39 ∷ 0x39 ∷ 0x3A ∷ 0x3A ∷ 0x3B ∷ 0x3B ∷ 0x3C ∷ 0x3C ∷ 0x3D ∷ 0x3D ∷ 0x3E ∷ 0x3E ∷ 0x3F ∷ 0x3F ∷ []

-- a cached brush, entry 0: format and length of its pixels
abbrev brush_of : ℕ → ℕ → ℕ → List ℕ → List ℕ
brush_of length_ format count pixels = 0x03 ∷ length_ ∷ 0x00 ∷ 0x00 ∷ 0x00 ∷ 0x07 ∷ 0x00 ∷ format ∷ 0x08 ∷ 0x08 ∷ 0x00 ∷ count ∷ pixels

-- PatBlt: width +8, height +4, rop F0, a style, hatch 0
abbrev pattern_of : ℕ → List ℕ
pattern_of style = 0x19 ∷ 0x01 ∷ 0x1C ∷ 0x02 ∷ 0x08 ∷ 0x04 ∷ 0xF0 ∷ style ∷ []

-- wrong: a pattern has the style 85 at both depths
-- wrong: pixels of a cached brush are read in three bytes
-- wrong: every client's orders are read at 24 bits
pub brush_at_16_bits : makes_at_16 (orders 2 (brush_of 0x7F 0x04 0x80 small_pixels ++ pattern_of 0x84) ++ mark) ≡ picture 1 0 (
    Some 0x3838 ∷ Some 0x3939 ∷ Some 0x3A3A ∷ Some 0x3B3B ∷ Some 0x3C3C ∷ Some 0x3D3D ∷ Some 0x3E3E ∷ Some 0x3F3F ∷
    Some 0x3030 ∷ Some 0x3131 ∷ Some 0x3232 ∷ Some 0x3333 ∷ Some 0x3434 ∷ Some 0x3535 ∷ Some 0x3636 ∷ Some 0x3737 ∷
    Some 0x2828 ∷ Some 0x2929 ∷ Some 0x2A2A ∷ Some 0x2B2B ∷ Some 0x2C2C ∷ Some 0x2D2D ∷ Some 0x2E2E ∷ Some 0x2F2F ∷
    Some 0x2020 ∷ Some 0x2121 ∷ Some 0x2222 ∷ Some 0x2323 ∷ Some 0x2424 ∷ Some 0x2525 ∷ Some 0x2626 ∷ Some 0x2727 ∷ [])
unfolding ternary_raster
brush_at_16_bits = refl

pub style_of_24_bits_at_16 : makes_at_16 (orders 2 (brush_of 0x7F 0x04 0x80 small_pixels ++ pattern_of 0x85) ++ mark) ≡ refused 33 Broken
style_of_24_bits_at_16 = refl

pub style_of_16_bits_at_24 : makes (orders 2 (cached_brush 0 ++ pattern_of 0x84) ++ mark) ≡ refused 33 Broken
style_of_16_bits_at_24 = refl

-- wrong: a cached brush has the format 05 at both depths
pub brush_of_24_bits_at_16 : makes_at_16 (orders 1 (cached_brush 0)) ≡ refused 48 Broken
brush_of_24_bits_at_16 = refl

pub brush_of_16_bits_at_24 : makes (orders 1 (brush_of 0x7F 0x04 0x80 small_pixels)) ≡ refused 48 Broken
brush_of_16_bits_at_24 = refl

-- wrong: a cached brush has 192 bytes at both depths
pub brush_of_192_bytes_at_16 : makes_at_16 (orders 1 (brush_of 0xBF 0x04 0xC0 (small_pixels ++ replicate 64 0))) ≡ refused 52 Broken
brush_of_192_bytes_at_16 = refl

-- a raw cached bitmap of 8 columns, entry 0 of cache 2, whose cell has 96 bytes: total less 13, height, bits, length, pixels of 0
abbrev image_of : ℕ → ℕ → ℕ → ℕ → List ℕ
image_of total h bits n = 0x03 ∷ total ∷ 0x00 ∷ 0x00 ∷ 0x00 ∷ 0x00 ∷ 0x02 ∷ 0x00 ∷ 0x08 ∷ h ∷ bits ∷ n ∷ 0x00 ∷ 0x00 ∷ 0x00 ∷ replicate n 0

-- 8 by 6 pixels are 96 bytes at 16 bits, and 144 at 24
-- wrong: a client's cell counts three bytes a pixel at 16 bits
-- wrong: raw pixels are three bytes each at 16 bits
pub image_that_fills_its_cell_at_16_bits : makes_at_16 (orders 1 (image_of 98 6 16 96) ++ mark) ≡ picture 0 0 (replicate 32 None)
image_that_fills_its_cell_at_16_bits = refl

-- wrong: a client's cell counts two bytes a pixel at 24 bits
pub same_image_past_its_cell_at_24_bits : makes (orders 1 (image_of 146 6 24 144) ++ mark) ≡ refused 33 (Oversized 2 0)
same_image_past_its_cell_at_24_bits = refl

pub image_a_row_past_its_cell_at_16_bits : makes_at_16 (orders 1 (image_of 114 7 16 112) ++ mark) ≡ refused 33 (Oversized 2 0)
image_a_row_past_its_cell_at_16_bits = refl

-- whatever its bytes are
-- wrong: a client at 16 bits takes bitmaps of 24
pub image_of_24_bits_at_16 : makes_at_16 (orders 1 (image_of 98 6 24 96) ++ mark) ≡ refused 33 Broken
image_of_24_bits_at_16 = refl

-- each code of a packed rectangle of 8 by 4: from the bottom, a foreground pixel FFFF, black, white, two of a dithered run, black, two of one colour;
-- one of a new foreground over the row below, as below, and behind that one of the foreground, two that are given, three as below;
-- two of the foreground by the mask 03; eight of a new one by the mask AA
-- wrong: packed pixels are read at 24 bits
pub codes_of_a_packed_rectangle_at_16_bits : makes_at_16 (packet (0x01 ∷ 0x00 ∷ 0x01 ∷ 0x00 ∷ 0x00 ∷ 0x00 ∷ 0x00 ∷ 0x00 ∷ 0x07 ∷ 0x00 ∷ 0x03 ∷ 0x00 ∷ 0x08 ∷ 0x00 ∷ 0x04 ∷ 0x00 ∷ 0x10 ∷ 0x00 ∷ 0x01 ∷ 0x04 ∷ 0x1C ∷ 0x00 ∷ 0x21 ∷ 0xFE ∷ 0xFD ∷ 0xE1 ∷ 0x34 ∷ 0x12 ∷ 0x78 ∷ 0x56 ∷ 0x01 ∷ 0x62 ∷ 0xCD ∷ 0xAB ∷ 0xC1 ∷ 0x0F ∷ 0x0F ∷ 0x01 ∷ 0x01 ∷ 0x82 ∷ 0x11 ∷ 0x11 ∷ 0x22 ∷ 0x22 ∷ 0x03 ∷ 0xF9 ∷ 0xD1 ∷ 0xF0 ∷ 0xF0 ∷ 0xAA ∷ []) ++ mark) ≡ picture 0 1 (
    Some 0xFFFF ∷ Some 0xFFFF ∷ Some 0xF0F0 ∷ Some 0xE1E1 ∷ Some 0x2222 ∷ Some 0xF0F0 ∷ Some 0xABCD ∷ Some 0x5B3D ∷
    Some 0xFFFF ∷ Some 0x0F0F ∷ Some 0xF0F0 ∷ Some 0x1111 ∷ Some 0x2222 ∷ Some 0x0000 ∷ Some 0xABCD ∷ Some 0xABCD ∷
    Some 0xF0F0 ∷ Some 0x0000 ∷ Some 0xF0F0 ∷ Some 0x1111 ∷ Some 0x2222 ∷ Some 0x0000 ∷ Some 0xABCD ∷ Some 0xABCD ∷
    Some 0xFFFF ∷ Some 0x0000 ∷ Some 0xFFFF ∷ Some 0x1234 ∷ Some 0x5678 ∷ Some 0x0000 ∷ Some 0xABCD ∷ Some 0xABCD ∷ [])
codes_of_a_packed_rectangle_at_16_bits = refl

-- a cached glyph of 8 by 1, entry 0 of cache 0
abbrev glyph_of_a_row : List ℕ
glyph_of_a_row = 0x03 ∷ 0x09 ∷ 0x00 ∷ 0x00 ∷ 0x00 ∷ 0x03 ∷ 0x00 ∷ 0x01 ∷ 0x00 ∷ 0x00 ∷ 0x00 ∷ 0x00 ∷ 0x00 ∷ 0x00 ∷ 0x08 ∷ 0x00 ∷ 0x01 ∷ 0x00 ∷ 0xFF ∷ 0x00 ∷ 0x00 ∷ 0x00 ∷ []

-- GlyphIndex at (0, 0): flAccel 3, fOpRedundant 1, BackColor F800, ForeColor, the run of that glyph
abbrev run_over : ℕ → ℕ → List ℕ
run_over second third = 0x09 ∷ 0x1B ∷ 0x3A ∷ 0x00 ∷ 0x20 ∷ 0x03 ∷ 0x01 ∷ 0x00 ∷ 0xF8 ∷ 0x00 ∷ 0x00 ∷ second ∷ third ∷ 0x02 ∷ 0x00 ∷ 0x00 ∷ []

-- of a ForeColor the third byte isn't looked at
-- wrong: the third byte of a ForeColor is compared
pub third_byte_of_a_fore_color_is_not_looked_at : makes_at_16 (orders 3 (filled_with 0x00 0x00 0x00 ++ (glyph_of_a_row ++ run_over 0x00 0x05)) ++ mark)
    ≡ picture 2 0 (replicate 8 (Some 0xF800) ++ replicate 24 (Some 0x0000))
third_byte_of_a_fore_color_is_not_looked_at = refl

pub fore_color_of_a_run_at_16_bits : makes_at_16 (orders 3 (filled_with 0x00 0x00 0x00 ++ (glyph_of_a_row ++ run_over 0x01 0x00)) ++ mark) ≡ refused 32 Broken
fore_color_of_a_run_at_16_bits = refl
