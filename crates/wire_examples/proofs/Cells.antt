-- What a viewer makes of cached bitmaps, glyphs and brushes at the edges of its caches. A coordinate with a sign is added to the last one.
use Rattle.std.proofs.Common.{◌≡◌, ℕ, List, [], ◌∷◌, ◌++◌, refl, Some, None, replicate, false}
use Rattle.rop3_core.specs.Rop3.{ternary_raster}
use Rattle.caps_sets.specs.declared.confirmed.Confirmed.{Confirmed}
use Rattle.caps_sets.specs.Confirmed.{sized}
use Rattle.order_means.specs.ClientState.Fault.{Broken, Oversized}
use Rattle.wire_examples.proofs.Viewer.{small}
use Rattle.wire_examples.proofs.Streams.{viewer, orders, mark, filled_with, cached_image, small_image, cached_brush, cached_brush_of, makes, made_by, picture, refused}

-- a viewer whose bitmap cache 1 has a cell of so many bytes
abbrev cell_of : ℕ → Confirmed
cell_of n = record small { bitmaps = sized 2 48 ∷ sized 1 n ∷ sized 0 0 ∷ [] }

-- a raw cached bitmap of 4 by 1, entry 0 of cache 1
abbrev image_of_a_row : List ℕ
image_of_a_row = 0x03 ∷ 0x0E ∷ 0x00 ∷ 0x00 ∷ 0x00 ∷ 0x00 ∷ 0x01 ∷ 0x00 ∷ 0x04 ∷ 0x01 ∷ 0x18 ∷ 0x0C ∷ 0x00 ∷ 0x00 ∷ 0x00 ∷ replicate 12 0x00

-- a cell counts three bytes a pixel: 96 of 96, and 12 of 12
-- wrong: a secondary order's length counts all but 7 of its bytes
-- wrong: cache orders are counted too
pub cells_that_are_full : makes (orders 2 (cached_image 2 ++ (
    -- cached raw bitmap: cacheId 1, width 4, height 1, bits 24, index 0, pixels
    0x03 ∷ 0x0E ∷ 0x00 ∷ 0x00 ∷ 0x00 ∷ 0x00 ∷ 0x01 ∷ 0x00 ∷ 0x04 ∷ 0x01 ∷ 0x18 ∷ 0x0C ∷ 0x00 ∷ 0x00 ∷ 0x00 ∷ replicate 12 0x00)) ++ mark)
    ≡ picture 0 0 (replicate 32 None)
cells_that_are_full = refl

-- 4 by 1 pixels are twelve bytes, in a cell of so many
-- wrong: a bitmap's cell counts four bytes a pixel
-- wrong: a cell must be less than the confirmed one
pub image_that_fills_its_cell : made_by (cell_of 12) (orders 1 image_of_a_row ++ mark) ≡ picture 0 0 (replicate 32 None)
image_that_fills_its_cell = refl

-- the same in a cell that has a byte less
-- wrong: a bitmap's cell is its width times its height
pub image_past_its_cell : made_by (cell_of 11) (orders 1 image_of_a_row ++ mark) ≡ refused 32 (Oversized 1 0)
image_past_its_cell = refl

-- 24 bytes in a cell of 12
pub image_a_row_past_its_cell : makes (orders 1 (
    -- cached raw bitmap: cacheId 1, width 4, height 2, bits 24, index 0, pixels
    0x03 ∷ 0x1A ∷ 0x00 ∷ 0x00 ∷ 0x00 ∷ 0x00 ∷ 0x01 ∷ 0x00 ∷ 0x04 ∷ 0x02 ∷ 0x18 ∷ 0x18 ∷ 0x00 ∷ 0x00 ∷ 0x00 ∷ replicate 24 0x00) ++ mark)
    ≡ refused 32 (Oversized 1 0)
image_a_row_past_its_cell = refl

-- wrong: an image's index has one byte
pub greatest_index_of_a_cached_bitmap : makes (orders 1 (
    -- cached raw bitmap: cacheId 0, width 4, height 1, bits 24, index 65535, pixels
    0x03 ∷ 0x0E ∷ 0x00 ∷ 0x00 ∷ 0x00 ∷ 0x00 ∷ 0x00 ∷ 0x00 ∷ 0x04 ∷ 0x01 ∷ 0x18 ∷ 0x0C ∷ 0x00 ∷ 0xFF ∷ 0xFF ∷ replicate 12 0x00))
    ≡ refused 32 (Oversized 0 65535)
greatest_index_of_a_cached_bitmap = refl

-- wrong: the brush cache is there whatever was confirmed
pub cached_brush_of_a_viewer_without_brushes : made_by (viewer false false) (orders 1 (cached_brush_of 0 (replicate 192 0)) ++ mark)
    ≡ refused 33 (Oversized 13 0)
cached_brush_of_a_viewer_without_brushes = refl

-- its 64 pixels are one field, refused at its first byte
-- wrong: a brush's pixels are fields of one byte each
pub brush_a_byte_short : makes (orders 1 (
    -- cached brush: entry 0, format 05, sides 2056, style 00, length of pixels 192, pixels
    0x03 ∷ 0xBE ∷ 0x00 ∷ 0x00 ∷ 0x00 ∷ 0x07 ∷ 0x00 ∷ 0x05 ∷ 0x08 ∷ 0x08 ∷ 0x00 ∷ 0xC0 ∷ replicate 191 0x00) ++ mark) ≡ refused 53 Broken
brush_a_byte_short = refl

-- a cell counts three bytes a pixel, and not the one byte that a background run of eight has
-- wrong: a packed bitmap's cell counts its packed bytes
pub packed_image_past_its_cell : makes (orders 1 (
    -- cached packed bitmap: cacheId 1, width 4, height 2, bits 24, index 0, pixels
    0x03 ∷ 0x03 ∷ 0x00 ∷ 0x00 ∷ 0x04 ∷ 0x02 ∷ 0x01 ∷ 0x00 ∷ 0x04 ∷ 0x02 ∷ 0x18 ∷ 0x01 ∷ 0x00 ∷ 0x00 ∷ 0x00 ∷
    0x08 ∷ []) ++ mark) ≡ refused 32 (Oversized 1 0)
packed_image_past_its_cell = refl

-- 23 bytes of 24, which are too many for the cell of 12
-- wrong: a cell is tested before a bitmap's bytes
pub bytes_of_an_image_before_its_cell : makes (orders 1 (
    -- cached raw bitmap: cacheId 1, width 4, height 2, bits 24, index 0, pixels
    0x03 ∷ 0x19 ∷ 0x00 ∷ 0x00 ∷ 0x00 ∷ 0x00 ∷ 0x01 ∷ 0x00 ∷ 0x04 ∷ 0x02 ∷ 0x18 ∷ 0x17 ∷ 0x00 ∷ 0x00 ∷ 0x00 ∷ replicate 23 0x00) ++ mark) ≡ refused 32 Broken
bytes_of_an_image_before_its_cell = refl

-- 11 bytes of 12
-- wrong: raw bytes may be fewer than three a pixel
pub raw_image_that_is_too_short : makes (orders 1 (
    -- cached raw bitmap: cacheId 0, width 4, height 1, bits 24, index 0, pixels
    0x03 ∷ 0x0D ∷ 0x00 ∷ 0x00 ∷ 0x00 ∷ 0x00 ∷ 0x00 ∷ 0x00 ∷ 0x04 ∷ 0x01 ∷ 0x18 ∷ 0x0B ∷ 0x00 ∷ 0x00 ∷ 0x00 ∷ replicate 11 0x00) ++ mark) ≡ refused 32 Broken
raw_image_that_is_too_short = refl

-- wrong: a bitmap may have a height of 0
pub image_without_a_row : makes (orders 1 (
    -- cached raw bitmap: cacheId 0, width 4, height 0, bits 24, index 0
    0x03 ∷ 0x02 ∷ 0x00 ∷ 0x00 ∷ 0x00 ∷ 0x00 ∷ 0x00 ∷ 0x00 ∷ 0x04 ∷ 0x00 ∷ 0x18 ∷ 0x00 ∷ 0x00 ∷ 0x00 ∷ 0x00 ∷ []) ++ mark) ≡ refused 32 Broken
image_without_a_row = refl

-- a background run of 256 pixels, which fill the cell of 768 bytes
-- wrong: a bitmap of 64 by 64 is refused
pub image_of_sixty_four_columns : makes (orders 1 (
    -- cached packed bitmap: cacheId 0, width 64, height 4, bits 24, index 0, pixels
    0x03 ∷ 0x05 ∷ 0x00 ∷ 0x00 ∷ 0x04 ∷ 0x02 ∷ 0x00 ∷ 0x00 ∷ 0x40 ∷ 0x04 ∷ 0x18 ∷ 0x03 ∷ 0x00 ∷ 0x00 ∷ 0x00 ∷
    0xF0 ∷ 0x00 ∷ 0x01 ∷ []) ++ mark) ≡ picture 0 0 (replicate 32 None)
image_of_sixty_four_columns = refl

pub image_of_sixty_four_rows : makes (orders 1 (
    -- cached packed bitmap: cacheId 0, width 4, height 64, bits 24, index 0, pixels
    0x03 ∷ 0x05 ∷ 0x00 ∷ 0x00 ∷ 0x04 ∷ 0x02 ∷ 0x00 ∷ 0x00 ∷ 0x04 ∷ 0x40 ∷ 0x18 ∷ 0x03 ∷ 0x00 ∷ 0x00 ∷ 0x00 ∷
    0xF0 ∷ 0x00 ∷ 0x01 ∷ []) ++ mark) ≡ picture 0 0 (replicate 32 None)
image_of_sixty_four_rows = refl

-- a background run of 68 pixels, for which the cell has room
-- wrong: a bitmap may be wider than 64
pub image_of_sixty_eight_columns : makes (orders 1 (
    -- cached packed bitmap: cacheId 0, width 68, height 1, bits 24, index 0, pixels
    0x03 ∷ 0x05 ∷ 0x00 ∷ 0x00 ∷ 0x04 ∷ 0x02 ∷ 0x00 ∷ 0x00 ∷ 0x44 ∷ 0x01 ∷ 0x18 ∷ 0x03 ∷ 0x00 ∷ 0x00 ∷ 0x00 ∷
    0xF0 ∷ 0x44 ∷ 0x00 ∷ []) ++ mark) ≡ refused 32 Broken
image_of_sixty_eight_columns = refl

-- wrong: a cached brush's flags are to be 0
-- wrong: a cached brush's style is to be 0
pub flags_and_style_of_a_cached_brush_are_not_read : makes (orders 2 (
    -- cached brush: flags FFFF, entry 2, format 05, sides 08 08, style 07, length of its pixels
    (0x03 ∷ 0xBF ∷ 0x00 ∷ 0xFF ∷ 0xFF ∷ 0x07 ∷ 0x02 ∷ 0x05 ∷ 0x08 ∷ 0x08 ∷ 0x07 ∷ 0xC0 ∷ replicate 192 0x2A) ++ (
    -- PatBlt: width +8, height +4, rop F0, style 85, hatch 2
    0x11 ∷ 0x1C ∷ 0x06 ∷
    0x08 ∷ 0x04 ∷ 0xF0 ∷ 0x85 ∷ 0x02 ∷ [])) ++ mark) ≡ picture 1 0 (replicate 32 (Some 0x2A2A2A))
unfolding ternary_raster
flags_and_style_of_a_cached_brush_are_not_read = refl

-- a viewer whose glyph cache 0 has a cell of so many bytes
abbrev glyph_cell_of : ℕ → Confirmed
glyph_cell_of n = record small { glyphs = sized 2 n ∷ replicate 9 (sized 0 0) }

-- a glyph of 8 by 5, whose five bytes are padded to eight: length, flags, type; cacheId, count; index, x, y, cx, cy, bits
abbrev glyph_of_five_rows : List ℕ
glyph_of_five_rows =
    0x03 ∷ 0x0D ∷ 0x00 ∷ 0x00 ∷ 0x00 ∷ 0x03 ∷ 0x00 ∷ 0x01 ∷
    0x00 ∷ 0x00 ∷ 0x00 ∷ 0x00 ∷ 0x00 ∷ 0x00 ∷ 0x08 ∷ 0x00 ∷ 0x05 ∷ 0x00 ∷ replicate 8 0x00

-- wrong: a glyph's bits are not padded to four bytes
pub glyph_that_fills_its_cell : made_by (glyph_cell_of 8) (orders 1 glyph_of_five_rows ++ mark) ≡ picture 0 0 (replicate 32 None)
glyph_that_fills_its_cell = refl

-- wrong: a glyph's cell counts unpadded bits
pub padded_glyph_past_its_cell : made_by (glyph_cell_of 7) (orders 1 glyph_of_five_rows ++ mark) ≡ refused 32 (Oversized 3 0)
padded_glyph_past_its_cell = refl

-- a raw cached bitmap of 4 by 1 in one colour, entry 0 of a cache
abbrev image_in_one_color : ℕ → List ℕ
image_in_one_color cache = 0x03 ∷ 0x0E ∷ 0x00 ∷ 0x00 ∷ 0x00 ∷ 0x00 ∷ cache ∷ 0x00 ∷ 0x04 ∷ 0x01 ∷ 0x18 ∷ 0x0C ∷ 0x00 ∷ 0x00 ∷ 0x00 ∷ replicate 12 0x2A

-- it replaces the first one
-- wrong: an entry that is full keeps its first image
pub second_image_of_an_entry : makes (orders 4 (filled_with 0x01 0x02 0x03 ++ (small_image ++ (image_in_one_color 0 ++ (
    -- MemBlt: width +4, height +1, rop CC
    0x59 ∷ 0x0D ∷ 0x38 ∷
    0x04 ∷ 0x01 ∷ 0xCC ∷ [])))) ++ mark) ≡ picture 2 0 (
    Some 0x2A2A2A ∷ Some 0x2A2A2A ∷ Some 0x2A2A2A ∷ Some 0x2A2A2A ∷ Some 0x010203 ∷ Some 0x010203 ∷ Some 0x010203 ∷ Some 0x010203 ∷
    Some 0x010203 ∷ Some 0x010203 ∷ Some 0x010203 ∷ Some 0x010203 ∷ Some 0x010203 ∷ Some 0x010203 ∷ Some 0x010203 ∷ Some 0x010203 ∷
    Some 0x010203 ∷ Some 0x010203 ∷ Some 0x010203 ∷ Some 0x010203 ∷ Some 0x010203 ∷ Some 0x010203 ∷ Some 0x010203 ∷ Some 0x010203 ∷
    Some 0x010203 ∷ Some 0x010203 ∷ Some 0x010203 ∷ Some 0x010203 ∷ Some 0x010203 ∷ Some 0x010203 ∷ Some 0x010203 ∷ Some 0x010203 ∷ [])
unfolding ternary_raster
second_image_of_an_entry = refl

-- cache 0 keeps its own
-- wrong: the bitmap caches are one
pub image_of_the_same_entry_in_another_cache : makes (orders 4 (filled_with 0x01 0x02 0x03 ++ (small_image ++ (image_in_one_color 1 ++ (
    -- MemBlt: width +4, height +1, rop CC
    0x59 ∷ 0x0D ∷ 0x38 ∷
    0x04 ∷ 0x01 ∷ 0xCC ∷ [])))) ++ mark) ≡ picture 2 0 (
    Some 0x0E0D0C ∷ Some 0x11100F ∷ Some 0x141312 ∷ Some 0x171615 ∷ Some 0x010203 ∷ Some 0x010203 ∷ Some 0x010203 ∷ Some 0x010203 ∷
    Some 0x010203 ∷ Some 0x010203 ∷ Some 0x010203 ∷ Some 0x010203 ∷ Some 0x010203 ∷ Some 0x010203 ∷ Some 0x010203 ∷ Some 0x010203 ∷
    Some 0x010203 ∷ Some 0x010203 ∷ Some 0x010203 ∷ Some 0x010203 ∷ Some 0x010203 ∷ Some 0x010203 ∷ Some 0x010203 ∷ Some 0x010203 ∷
    Some 0x010203 ∷ Some 0x010203 ∷ Some 0x010203 ∷ Some 0x010203 ∷ Some 0x010203 ∷ Some 0x010203 ∷ Some 0x010203 ∷ Some 0x010203 ∷ [])
unfolding ternary_raster
image_of_the_same_entry_in_another_cache = refl

-- it replaces the first one
-- wrong: an entry that is full keeps its first brush
pub second_brush_of_an_entry : makes (orders 3 (cached_brush 2 ++ (cached_brush_of 2 (replicate 192 0x2A) ++ (
    -- PatBlt: width +8, height +4, rop F0, style 85, hatch 2
    0x11 ∷ 0x1C ∷ 0x06 ∷
    0x08 ∷ 0x04 ∷ 0xF0 ∷ 0x85 ∷ 0x02 ∷ []))) ++ mark) ≡ picture 1 0 (replicate 32 (Some 0x2A2A2A))
unfolding ternary_raster
second_brush_of_an_entry = refl
