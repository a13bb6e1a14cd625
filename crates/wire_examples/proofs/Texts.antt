-- What a viewer makes of GlyphIndex and of cached glyphs. A coordinate with a sign is added to the last one.
use Rattle.std.proofs.Common.{◌≡◌, ℕ, List, [], ◌∷◌, ◌++◌, refl, Some, replicate}
use Rattle.order_means.specs.ClientState.Fault.{Broken, Oversized}
use Rattle.wire_examples.proofs.Streams.{orders, mark, filled_with, makes, picture, refused}

-- rows of two bytes; drawn two columns left of, and a row above, the place after its delta
-- wrong: a colour field reads blue first
-- wrong: a glyph's offset is ignored
-- wrong: a glyph's column offset is ignored
-- wrong: a glyph's row offset is ignored
-- wrong: the second byte of a glyph's row is ignored
-- wrong: a glyph's rows are not padded to bytes
-- wrong: a glyph's lowest bit is on the left
-- wrong: a glyph's rows go from the bottom
-- wrong: a cached glyph's offset is unsigned
-- wrong: a run's colour is the fore colour
-- wrong: there is no glyph cache 9 for runs
-- wrong: a run paints its whole cells
-- wrong: a glyph draws the bits that are zero
pub glyph_of_eleven_columns_and_its_offset : makes (orders 3 (filled_with 0x01 0x02 0x03 ++ (
    -- cached glyph: cacheId 9, count 1, index 1, x -2, y -1, cx 11, cy 3, bits
    0x03 ∷ 0x0D ∷ 0x00 ∷ 0x00 ∷ 0x00 ∷ 0x03 ∷ 0x09 ∷ 0x01 ∷ 0x01 ∷ 0x00 ∷ 0xFE ∷ 0xFF ∷ 0xFF ∷ 0xFF ∷ 0x0B ∷ 0x00 ∷ 0x03 ∷ 0x00 ∷
    0xA5 ∷ 0x60 ∷ 0x3C ∷ 0xA0 ∷ 0xC3 ∷ 0x40 ∷ 0x00 ∷ 0x00 ∷
    -- GlyphIndex: cacheId 9, flAccel 3, fOpRedundant 1, back ABCDEF, x 1, y 1, bytes
    0x09 ∷ 0x1B ∷ 0x1B ∷ 0x00 ∷ 0x38 ∷
    0x09 ∷ 0x03 ∷ 0x01 ∷ 0xAB ∷ 0xCD ∷ 0xEF ∷ 0x01 ∷ 0x00 ∷ 0x01 ∷ 0x00 ∷ 0x02 ∷ 0x01 ∷ 0x00 ∷ [])) ++ mark) ≡ picture 2 0 (
    Some 0x010203 ∷ Some 0xABCDEF ∷ Some 0x010203 ∷ Some 0x010203 ∷ Some 0xABCDEF ∷ Some 0x010203 ∷ Some 0xABCDEF ∷ Some 0x010203 ∷
    Some 0x010203 ∷ Some 0xABCDEF ∷ Some 0xABCDEF ∷ Some 0xABCDEF ∷ Some 0xABCDEF ∷ Some 0x010203 ∷ Some 0x010203 ∷ Some 0xABCDEF ∷
    Some 0xABCDEF ∷ Some 0x010203 ∷ Some 0x010203 ∷ Some 0x010203 ∷ Some 0x010203 ∷ Some 0xABCDEF ∷ Some 0xABCDEF ∷ Some 0x010203 ∷
    Some 0x010203 ∷ Some 0x010203 ∷ Some 0x010203 ∷ Some 0x010203 ∷ Some 0x010203 ∷ Some 0x010203 ∷ Some 0x010203 ∷ Some 0x010203 ∷ [])
glyph_of_eleven_columns_and_its_offset = refl

-- three glyphs, of which the second lies left of the first; within the columns 1 to 6 and the rows 1 to 2
-- wrong: GlyphIndex has no bounds
-- wrong: numbers of two bytes in a GlyphIndex are unsigned
-- wrong: a glyph is drawn before its delta is added
-- wrong: a delta counts from the run's start
-- wrong: a glyph left of the first one is not drawn
pub glyphs_side_by_side_in_bounds : makes (orders 4 (filled_with 0x01 0x02 0x03 ++ (
    -- cached glyph: cacheId 9, count 1, index 0, x 3, y 0, cx 8, cy 2, bits
    0x03 ∷ 0x09 ∷ 0x00 ∷ 0x00 ∷ 0x00 ∷ 0x03 ∷ 0x09 ∷ 0x01 ∷ 0x00 ∷ 0x00 ∷ 0x03 ∷ 0x00 ∷ 0x00 ∷ 0x00 ∷ 0x08 ∷ 0x00 ∷ 0x02 ∷ 0x00 ∷
    0xF0 ∷ 0x90 ∷ 0x00 ∷ 0x00 ∷
    -- cached glyph: cacheId 9, count 1, index 1, x -2, y 1, cx 3, cy 2, bits
    0x03 ∷ 0x09 ∷ 0x00 ∷ 0x00 ∷ 0x00 ∷ 0x03 ∷ 0x09 ∷ 0x01 ∷ 0x01 ∷ 0x00 ∷ 0xFE ∷ 0xFF ∷ 0x01 ∷ 0x00 ∷ 0x03 ∷ 0x00 ∷ 0x02 ∷ 0x00 ∷
    0xE0 ∷ 0x40 ∷ 0x00 ∷ 0x00 ∷
    -- GlyphIndex: left edge +1, top edge +1, right edge +6, bottom edge +2, cacheId 9, flAccel 3, fOpRedundant 1, back 01020A, x -1, bytes
    0x0D ∷ 0x1B ∷ 0x1B ∷ 0x00 ∷ 0x28 ∷
    0xF0 ∷ 0x01 ∷ 0x01 ∷ 0x06 ∷ 0x02 ∷ 0x09 ∷ 0x03 ∷ 0x01 ∷ 0x01 ∷ 0x02 ∷ 0x0A ∷ 0xFF ∷ 0xFF ∷ 0x06 ∷ 0x00 ∷ 0x01 ∷ 0x01 ∷ 0x02 ∷ 0x00 ∷ 0x03 ∷ [])) ++ mark)
    ≡ picture 2 0 (
    Some 0x010203 ∷ Some 0x010203 ∷ Some 0x010203 ∷ Some 0x010203 ∷ Some 0x010203 ∷ Some 0x010203 ∷ Some 0x010203 ∷ Some 0x010203 ∷
    Some 0x010203 ∷ Some 0x01020A ∷ Some 0x01020A ∷ Some 0x01020A ∷ Some 0x010203 ∷ Some 0x010203 ∷ Some 0x01020A ∷ Some 0x010203 ∷
    Some 0x010203 ∷ Some 0x01020A ∷ Some 0x010203 ∷ Some 0x010203 ∷ Some 0x010203 ∷ Some 0x010203 ∷ Some 0x010203 ∷ Some 0x010203 ∷
    Some 0x010203 ∷ Some 0x010203 ∷ Some 0x010203 ∷ Some 0x010203 ∷ Some 0x010203 ∷ Some 0x010203 ∷ Some 0x010203 ∷ Some 0x010203 ∷ [])
glyphs_side_by_side_in_bounds = refl

-- an empty run with any edges bk
-- wrong: a run's bkLeft is to be 0
-- wrong: a run's bkTop is to be 0
-- wrong: a run's bkRight is to be 0
-- wrong: a run's bkBottom is to be 0
-- wrong: an empty run is refused
-- wrong: a run is drawn only within the edges bk
pub edges_of_a_background_are_not_read : makes (orders 2 (filled_with 0x01 0x02 0x03 ++ (
    -- GlyphIndex: cacheId 9, flAccel 3, fOpRedundant 1, bkLeft -5, bkTop 7, bkRight -32768, bkBottom 32767
    0x49 ∷ 0x1B ∷ 0xCB ∷ 0x03 ∷
    0x09 ∷ 0x03 ∷ 0x01 ∷ 0xFB ∷ 0xFF ∷ 0x07 ∷ 0x00 ∷ 0x00 ∷ 0x80 ∷ 0xFF ∷ 0x7F ∷ [])) ++ mark) ≡ picture 2 0 (replicate 32 (Some 0x010203))
edges_of_a_background_are_not_read = refl

-- wrong: a run with extra is accepted
pub run_with_extra : makes (orders 2 (filled_with 0x01 0x02 0x03 ++ (
    -- GlyphIndex: cacheId 9, flAccel 3, fOpRedundant 1, extra
    0x09 ∷ 0x1B ∷ 0x0B ∷ 0x00 ∷ 0x04 ∷
    0x09 ∷ 0x03 ∷ 0x01 ∷ 0x01 ∷ 0x00 ∷ 0x00 ∷ 0x00 ∷ 0x00 ∷ 0x00 ∷ 0x00 ∷ [])) ++ mark) ≡ refused 32 Broken
run_with_extra = refl

-- wrong: a run with a hatch is accepted
pub run_with_a_hatch : makes (orders 2 (filled_with 0x01 0x02 0x03 ++ (
    -- GlyphIndex: cacheId 9, flAccel 3, fOpRedundant 1, hatch 1
    0x09 ∷ 0x1B ∷ 0x0B ∷ 0x00 ∷ 0x02 ∷
    0x09 ∷ 0x03 ∷ 0x01 ∷ 0x01 ∷ [])) ++ mark) ≡ refused 32 Broken
run_with_a_hatch = refl

-- wrong: a run with a style is accepted
pub run_with_a_style : makes (orders 2 (filled_with 0x01 0x02 0x03 ++ (
    -- GlyphIndex: cacheId 9, flAccel 3, fOpRedundant 1, style 01
    0x09 ∷ 0x1B ∷ 0x0B ∷ 0x00 ∷ 0x01 ∷
    0x09 ∷ 0x03 ∷ 0x01 ∷ 0x01 ∷ [])) ++ mark) ≡ refused 32 Broken
run_with_a_style = refl

-- wrong: a run with orgX is accepted
pub run_with_a_column_origin : makes (orders 2 (filled_with 0x01 0x02 0x03 ++ (
    -- GlyphIndex: cacheId 9, flAccel 3, fOpRedundant 1, orgX 1
    0x49 ∷ 0x1B ∷ 0x0B ∷ 0x40 ∷
    0x09 ∷ 0x03 ∷ 0x01 ∷ 0x01 ∷ [])) ++ mark) ≡ refused 32 Broken
run_with_a_column_origin = refl

-- wrong: a run with orgY is accepted
pub run_with_a_row_origin : makes (orders 2 (filled_with 0x01 0x02 0x03 ++ (
    -- GlyphIndex: cacheId 9, flAccel 3, fOpRedundant 1, orgY 1
    0x49 ∷ 0x1B ∷ 0x0B ∷ 0x80 ∷
    0x09 ∷ 0x03 ∷ 0x01 ∷ 0x01 ∷ [])) ++ mark) ≡ refused 32 Broken
run_with_a_row_origin = refl

-- wrong: a run with opLeft is accepted
pub run_with_a_left_edge : makes (orders 2 (filled_with 0x01 0x02 0x03 ++ (
    -- GlyphIndex: cacheId 9, flAccel 3, fOpRedundant 1, opLeft 1
    0x49 ∷ 0x1B ∷ 0x0B ∷ 0x04 ∷
    0x09 ∷ 0x03 ∷ 0x01 ∷ 0x01 ∷ 0x00 ∷ [])) ++ mark) ≡ refused 32 Broken
run_with_a_left_edge = refl

-- wrong: a run with opTop is accepted
pub run_with_a_top_edge : makes (orders 2 (filled_with 0x01 0x02 0x03 ++ (
    -- GlyphIndex: cacheId 9, flAccel 3, fOpRedundant 1, opTop 1
    0x49 ∷ 0x1B ∷ 0x0B ∷ 0x08 ∷
    0x09 ∷ 0x03 ∷ 0x01 ∷ 0x01 ∷ 0x00 ∷ [])) ++ mark) ≡ refused 32 Broken
run_with_a_top_edge = refl

-- wrong: a run with opRight is accepted
pub run_with_a_right_edge : makes (orders 2 (filled_with 0x01 0x02 0x03 ++ (
    -- GlyphIndex: cacheId 9, flAccel 3, fOpRedundant 1, opRight 1
    0x49 ∷ 0x1B ∷ 0x0B ∷ 0x10 ∷
    0x09 ∷ 0x03 ∷ 0x01 ∷ 0x01 ∷ 0x00 ∷ [])) ++ mark) ≡ refused 32 Broken
run_with_a_right_edge = refl

-- wrong: a run with opBottom is accepted
pub run_with_a_bottom_edge : makes (orders 2 (filled_with 0x01 0x02 0x03 ++ (
    -- GlyphIndex: cacheId 9, flAccel 3, fOpRedundant 1, opBottom 1
    0x49 ∷ 0x1B ∷ 0x0B ∷ 0x20 ∷
    0x09 ∷ 0x03 ∷ 0x01 ∷ 0x01 ∷ 0x00 ∷ [])) ++ mark) ≡ refused 32 Broken
run_with_a_bottom_edge = refl

pub empty_run_with_a_fore_color : makes (orders 2 (filled_with 0x01 0x02 0x03 ++ (
    -- GlyphIndex: cacheId 9, flAccel 3, fOpRedundant 1, fore 000001
    0x89 ∷ 0x1B ∷ 0x2B ∷
    0x09 ∷ 0x03 ∷ 0x01 ∷ 0x00 ∷ 0x00 ∷ 0x01 ∷ [])) ++ mark) ≡ refused 32 Broken
empty_run_with_a_fore_color = refl

-- wrong: a run with ulCharInc is accepted
pub run_with_a_character_increment : makes (orders 2 (filled_with 0x01 0x02 0x03 ++ (
    -- GlyphIndex: cacheId 9, flAccel 3, ulCharInc 1, fOpRedundant 1
    0x89 ∷ 0x1B ∷ 0x0F ∷
    0x09 ∷ 0x03 ∷ 0x01 ∷ 0x01 ∷ [])) ++ mark) ≡ refused 32 Broken
run_with_a_character_increment = refl

-- 0 by 0 fits a cell of 4 bytes, and its run draws nothing
-- wrong: a glyph without a pixel is refused
pub glyph_without_a_pixel : makes (orders 1 (
    -- cached glyph: cacheId 1, count 1, index 0, x 0, y 0, cx 0, cy 0, bits
    0x03 ∷ 0x05 ∷ 0x00 ∷ 0x00 ∷ 0x00 ∷ 0x03 ∷ 0x01 ∷ 0x01 ∷ 0x00 ∷ 0x00 ∷ 0x00 ∷ 0x00 ∷ 0x00 ∷ 0x00 ∷ 0x00 ∷ 0x00 ∷ 0x00 ∷ 0x00 ∷ []) ++ (orders 2 (
    -- OpaqueRect: width +8, height +4, red 01, green 02, blue 03
    0x19 ∷ 0x0A ∷ 0x7C ∷
    0x08 ∷ 0x04 ∷ 0x01 ∷ 0x02 ∷ 0x03 ∷
    -- GlyphIndex: cacheId 1, flAccel 3, fOpRedundant 1, back ABCDEF, x 1, y 1, bytes
    0x09 ∷ 0x1B ∷ 0x1B ∷ 0x00 ∷ 0x38 ∷
    0x01 ∷ 0x03 ∷ 0x01 ∷ 0xAB ∷ 0xCD ∷ 0xEF ∷ 0x01 ∷ 0x00 ∷ 0x01 ∷ 0x00 ∷ 0x02 ∷ 0x00 ∷ 0x00 ∷ []) ++ mark)) ≡ picture 2 0 (replicate 32 (Some 0x010203))
glyph_without_a_pixel = refl

-- the first one of the order fits its cell of 4 bytes, the second one has 8
pub second_glyph_past_its_cell : makes (orders 1 (
    -- cached glyphs: cacheId 1, count 2, index 0, x 0, y 0, cx 8, cy 4, bits, index 1, x 0, y 0, cx 8, cy 5, bits
    0x03 ∷ 0x1B ∷ 0x00 ∷ 0x00 ∷ 0x00 ∷ 0x03 ∷ 0x01 ∷ 0x02 ∷ 0x00 ∷ 0x00 ∷ 0x00 ∷ 0x00 ∷ 0x00 ∷ 0x00 ∷ 0x08 ∷ 0x00 ∷ 0x04 ∷ 0x00 ∷
    0x00 ∷ 0x00 ∷ 0x00 ∷ 0x00 ∷ 0x01 ∷ 0x00 ∷ 0x00 ∷ 0x00 ∷ 0x00 ∷ 0x00 ∷ 0x08 ∷ 0x00 ∷ 0x05 ∷ 0x00 ∷
    0x00 ∷ 0x00 ∷ 0x00 ∷ 0x00 ∷ 0x00 ∷ 0x00 ∷ 0x00 ∷ 0x00 ∷ []) ++ mark) ≡ refused 32 (Oversized 4 1)
second_glyph_past_its_cell = refl

-- the order's length, 65,544 bytes, is what is refused, and not its cache
pub glyphs_that_do_not_fit : makes (orders 2 (
    -- cached glyphs: cacheId 10, count 0, ?
    0x03 ∷ 0xFB ∷ 0xFF ∷ 0x00 ∷ 0x00 ∷ 0x03 ∷ 0x0A ∷ 0x00 ∷ 0x19 ∷ 0x0A ∷ 0x7C ∷ 0x08 ∷ 0x04 ∷ 0x01 ∷ 0x02 ∷ 0x03 ∷ []) ++ mark) ≡ refused 41 Broken
glyphs_that_do_not_fit = refl

-- a glyph of 1 by 1 without an offset, entry 0 of cache 9: length, flags, type; cacheId, count; index, x, y, cx, cy, bits
abbrev one_pixel : List ℕ
one_pixel =
    0x03 ∷ 0x09 ∷ 0x00 ∷ 0x00 ∷ 0x00 ∷ 0x03 ∷ 0x09 ∷ 0x01 ∷
    0x00 ∷ 0x00 ∷ 0x00 ∷ 0x00 ∷ 0x00 ∷ 0x00 ∷ 0x01 ∷ 0x00 ∷ 0x01 ∷ 0x00 ∷ 0x80 ∷ 0x00 ∷ 0x00 ∷ 0x00 ∷ []

-- x and y have two bytes although the control byte says deltas
-- wrong: the delta form holds of a GlyphIndex too
pub delta_form_is_none_of_a_run : makes (orders 3 (filled_with 0x01 0x02 0x03 ++ (one_pixel ++ (
    -- GlyphIndex: cacheId 9, flAccel 3, fOpRedundant 1, back ABCDEF, x 2, y 1, bytes
    0x19 ∷ 0x1B ∷ 0x1B ∷ 0x00 ∷ 0x38 ∷
    0x09 ∷ 0x03 ∷ 0x01 ∷ 0xAB ∷ 0xCD ∷ 0xEF ∷ 0x02 ∷ 0x00 ∷ 0x01 ∷ 0x00 ∷ 0x02 ∷ 0x00 ∷ 0x00 ∷ []))) ++ mark) ≡ picture 2 0 (
    Some 0x010203 ∷ Some 0x010203 ∷ Some 0x010203 ∷ Some 0x010203 ∷ Some 0x010203 ∷ Some 0x010203 ∷ Some 0x010203 ∷ Some 0x010203 ∷
    Some 0x010203 ∷ Some 0x010203 ∷ Some 0xABCDEF ∷ Some 0x010203 ∷ Some 0x010203 ∷ Some 0x010203 ∷ Some 0x010203 ∷ Some 0x010203 ∷
    Some 0x010203 ∷ Some 0x010203 ∷ Some 0x010203 ∷ Some 0x010203 ∷ Some 0x010203 ∷ Some 0x010203 ∷ Some 0x010203 ∷ Some 0x010203 ∷
    Some 0x010203 ∷ Some 0x010203 ∷ Some 0x010203 ∷ Some 0x010203 ∷ Some 0x010203 ∷ Some 0x010203 ∷ Some 0x010203 ∷ Some 0x010203 ∷ [])
delta_form_is_none_of_a_run = refl

-- index 253 may stand in a run; the cache has three entries
-- wrong: index 253 is none
pub greatest_index_of_a_run : makes (orders 2 (filled_with 0x01 0x02 0x03 ++ (
    -- GlyphIndex: cacheId 9, flAccel 3, fOpRedundant 1, bytes
    0x09 ∷ 0x1B ∷ 0x0B ∷ 0x00 ∷ 0x20 ∷
    0x09 ∷ 0x03 ∷ 0x01 ∷ 0x02 ∷ 0xFD ∷ 0x00 ∷ [])) ++ mark) ≡ refused 32 (Oversized 12 253)
greatest_index_of_a_run = refl

-- column -126 and 127 more
-- wrong: delta 127 is none
pub greatest_delta_of_a_run : makes (orders 3 (filled_with 0x01 0x02 0x03 ++ (one_pixel ++ (
    -- GlyphIndex: cacheId 9, flAccel 3, fOpRedundant 1, back ABCDEF, x -126, bytes
    0x09 ∷ 0x1B ∷ 0x1B ∷ 0x00 ∷ 0x28 ∷
    0x09 ∷ 0x03 ∷ 0x01 ∷ 0xAB ∷ 0xCD ∷ 0xEF ∷ 0x82 ∷ 0xFF ∷ 0x02 ∷ 0x00 ∷ 0x7F ∷ []))) ++ mark) ≡ picture 2 0 (
    Some 0x010203 ∷ Some 0xABCDEF ∷ Some 0x010203 ∷ Some 0x010203 ∷ Some 0x010203 ∷ Some 0x010203 ∷ Some 0x010203 ∷ Some 0x010203 ∷
    Some 0x010203 ∷ Some 0x010203 ∷ Some 0x010203 ∷ Some 0x010203 ∷ Some 0x010203 ∷ Some 0x010203 ∷ Some 0x010203 ∷ Some 0x010203 ∷
    Some 0x010203 ∷ Some 0x010203 ∷ Some 0x010203 ∷ Some 0x010203 ∷ Some 0x010203 ∷ Some 0x010203 ∷ Some 0x010203 ∷ Some 0x010203 ∷
    Some 0x010203 ∷ Some 0x010203 ∷ Some 0x010203 ∷ Some 0x010203 ∷ Some 0x010203 ∷ Some 0x010203 ∷ Some 0x010203 ∷ Some 0x010203 ∷ [])
greatest_delta_of_a_run = refl

-- one glyph at one place, 65 times
-- wrong: a run of more than 64 pairs is refused
pub run_of_sixty_five_glyphs : makes (orders 3 (filled_with 0x01 0x02 0x03 ++ (one_pixel ++ (
    -- GlyphIndex: cacheId 9, flAccel 3, fOpRedundant 1, back ABCDEF, x 3, y 2, bytes
    0x09 ∷ 0x1B ∷ 0x1B ∷ 0x00 ∷ 0x38 ∷
    0x09 ∷ 0x03 ∷ 0x01 ∷ 0xAB ∷ 0xCD ∷ 0xEF ∷ 0x03 ∷ 0x00 ∷ 0x02 ∷ 0x00 ∷ 0x82 ∷ replicate 130 0x00))) ++ mark) ≡ picture 2 0 (
    Some 0x010203 ∷ Some 0x010203 ∷ Some 0x010203 ∷ Some 0x010203 ∷ Some 0x010203 ∷ Some 0x010203 ∷ Some 0x010203 ∷ Some 0x010203 ∷
    Some 0x010203 ∷ Some 0x010203 ∷ Some 0x010203 ∷ Some 0x010203 ∷ Some 0x010203 ∷ Some 0x010203 ∷ Some 0x010203 ∷ Some 0x010203 ∷
    Some 0x010203 ∷ Some 0x010203 ∷ Some 0x010203 ∷ Some 0xABCDEF ∷ Some 0x010203 ∷ Some 0x010203 ∷ Some 0x010203 ∷ Some 0x010203 ∷
    Some 0x010203 ∷ Some 0x010203 ∷ Some 0x010203 ∷ Some 0x010203 ∷ Some 0x010203 ∷ Some 0x010203 ∷ Some 0x010203 ∷ Some 0x010203 ∷ [])
run_of_sixty_five_glyphs = refl

-- one order has a glyph of 1 by 1 and one of 2 by 1
-- wrong: only the first glyph of an order is stored
-- wrong: only the last glyph of an order is stored
pub both_glyphs_of_an_order_are_kept : makes (orders 3 (filled_with 0x01 0x02 0x03 ++ (
    -- cached glyphs: cacheId 9, count 2; index 0, x 0, y 0, cx 1, cy 1, bits; index 1, x 0, y 0, cx 2, cy 1, bits
    0x03 ∷ 0x17 ∷ 0x00 ∷ 0x00 ∷ 0x00 ∷ 0x03 ∷ 0x09 ∷ 0x02 ∷
    0x00 ∷ 0x00 ∷ 0x00 ∷ 0x00 ∷ 0x00 ∷ 0x00 ∷ 0x01 ∷ 0x00 ∷ 0x01 ∷ 0x00 ∷ 0x80 ∷ 0x00 ∷ 0x00 ∷ 0x00 ∷
    0x01 ∷ 0x00 ∷ 0x00 ∷ 0x00 ∷ 0x00 ∷ 0x00 ∷ 0x02 ∷ 0x00 ∷ 0x01 ∷ 0x00 ∷ 0xC0 ∷ 0x00 ∷ 0x00 ∷ 0x00 ∷
    -- GlyphIndex: cacheId 9, flAccel 3, fOpRedundant 1, back ABCDEF, x 1, y 3, bytes
    0x09 ∷ 0x1B ∷ 0x1B ∷ 0x00 ∷ 0x38 ∷
    0x09 ∷ 0x03 ∷ 0x01 ∷ 0xAB ∷ 0xCD ∷ 0xEF ∷ 0x01 ∷ 0x00 ∷ 0x03 ∷ 0x00 ∷ 0x04 ∷ 0x00 ∷ 0x00 ∷ 0x01 ∷ 0x02 ∷ [])) ++ mark) ≡ picture 2 0 (
    Some 0x010203 ∷ Some 0x010203 ∷ Some 0x010203 ∷ Some 0x010203 ∷ Some 0x010203 ∷ Some 0x010203 ∷ Some 0x010203 ∷ Some 0x010203 ∷
    Some 0x010203 ∷ Some 0x010203 ∷ Some 0x010203 ∷ Some 0x010203 ∷ Some 0x010203 ∷ Some 0x010203 ∷ Some 0x010203 ∷ Some 0x010203 ∷
    Some 0x010203 ∷ Some 0x010203 ∷ Some 0x010203 ∷ Some 0x010203 ∷ Some 0x010203 ∷ Some 0x010203 ∷ Some 0x010203 ∷ Some 0x010203 ∷
    Some 0x010203 ∷ Some 0xABCDEF ∷ Some 0x010203 ∷ Some 0xABCDEF ∷ Some 0xABCDEF ∷ Some 0x010203 ∷ Some 0x010203 ∷ Some 0x010203 ∷ [])
both_glyphs_of_an_order_are_kept = refl

-- wrong: a cached glyph's flags are to be 0
pub flags_of_a_cached_glyph_are_not_read : makes (orders 3 (filled_with 0x01 0x02 0x03 ++ (
    -- cached glyph: flags FFFF, cacheId 9, count 1, index 0, x 0, y 0, cx 1, cy 1, bits
    0x03 ∷ 0x09 ∷ 0x00 ∷ 0xFF ∷ 0xFF ∷ 0x03 ∷ 0x09 ∷ 0x01 ∷ 0x00 ∷ 0x00 ∷ 0x00 ∷ 0x00 ∷ 0x00 ∷ 0x00 ∷ 0x01 ∷ 0x00 ∷ 0x01 ∷ 0x00 ∷ 0x80 ∷ 0x00 ∷ 0x00 ∷ 0x00 ∷
    -- GlyphIndex: cacheId 9, flAccel 3, fOpRedundant 1, back ABCDEF, bytes
    0x09 ∷ 0x1B ∷ 0x1B ∷ 0x00 ∷ 0x20 ∷
    0x09 ∷ 0x03 ∷ 0x01 ∷ 0xAB ∷ 0xCD ∷ 0xEF ∷ 0x02 ∷ 0x00 ∷ 0x00 ∷ [])) ++ mark) ≡ picture 2 0 (
    Some 0xABCDEF ∷ Some 0x010203 ∷ Some 0x010203 ∷ Some 0x010203 ∷ Some 0x010203 ∷ Some 0x010203 ∷ Some 0x010203 ∷ Some 0x010203 ∷
    Some 0x010203 ∷ Some 0x010203 ∷ Some 0x010203 ∷ Some 0x010203 ∷ Some 0x010203 ∷ Some 0x010203 ∷ Some 0x010203 ∷ Some 0x010203 ∷
    Some 0x010203 ∷ Some 0x010203 ∷ Some 0x010203 ∷ Some 0x010203 ∷ Some 0x010203 ∷ Some 0x010203 ∷ Some 0x010203 ∷ Some 0x010203 ∷
    Some 0x010203 ∷ Some 0x010203 ∷ Some 0x010203 ∷ Some 0x010203 ∷ Some 0x010203 ∷ Some 0x010203 ∷ Some 0x010203 ∷ Some 0x010203 ∷ [])
flags_of_a_cached_glyph_are_not_read = refl

-- cache 9 keeps its own
-- wrong: the glyph caches are one
pub glyph_of_the_same_entry_in_another_cache : makes (orders 4 (filled_with 0x01 0x02 0x03 ++ (one_pixel ++ (
    -- cached glyph: cacheId 1, count 1, index 0, x 0, y 0, cx 2, cy 1, bits
    0x03 ∷ 0x09 ∷ 0x00 ∷ 0x00 ∷ 0x00 ∷ 0x03 ∷ 0x01 ∷ 0x01 ∷
    0x00 ∷ 0x00 ∷ 0x00 ∷ 0x00 ∷ 0x00 ∷ 0x00 ∷ 0x02 ∷ 0x00 ∷ 0x01 ∷ 0x00 ∷ 0xC0 ∷ 0x00 ∷ 0x00 ∷ 0x00 ∷
    -- GlyphIndex: cacheId 9, flAccel 3, fOpRedundant 1, back ABCDEF, bytes
    0x09 ∷ 0x1B ∷ 0x1B ∷ 0x00 ∷ 0x20 ∷
    0x09 ∷ 0x03 ∷ 0x01 ∷ 0xAB ∷ 0xCD ∷ 0xEF ∷ 0x02 ∷ 0x00 ∷ 0x00 ∷ []))) ++ mark) ≡ picture 2 0 (
    Some 0xABCDEF ∷ Some 0x010203 ∷ Some 0x010203 ∷ Some 0x010203 ∷ Some 0x010203 ∷ Some 0x010203 ∷ Some 0x010203 ∷ Some 0x010203 ∷
    Some 0x010203 ∷ Some 0x010203 ∷ Some 0x010203 ∷ Some 0x010203 ∷ Some 0x010203 ∷ Some 0x010203 ∷ Some 0x010203 ∷ Some 0x010203 ∷
    Some 0x010203 ∷ Some 0x010203 ∷ Some 0x010203 ∷ Some 0x010203 ∷ Some 0x010203 ∷ Some 0x010203 ∷ Some 0x010203 ∷ Some 0x010203 ∷
    Some 0x010203 ∷ Some 0x010203 ∷ Some 0x010203 ∷ Some 0x010203 ∷ Some 0x010203 ∷ Some 0x010203 ∷ Some 0x010203 ∷ Some 0x010203 ∷ [])
glyph_of_the_same_entry_in_another_cache = refl
