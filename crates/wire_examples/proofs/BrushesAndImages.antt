-- What a viewer makes of orders with a brush, an image, or both: PatBlt and Mem3Blt. A coordinate with a sign is added to the last one.
use Rattle.std.proofs.Common.{◌≡◌, [], ◌∷◌, ◌++◌, refl, Some, None, replicate}
use Rattle.rop3_core.specs.Rop3.{ternary_raster}
use Rattle.order_means.specs.ClientState.Fault.{Broken, Empty}
use Rattle.wire_examples.proofs.Streams.{orders, mark, filled_with, cached_image, small_image, cached_brush, cached_brush_of, makes, picture, refused}

-- code B8 takes the picture where the image has a 1, and the brush where it has a 0; the image is read from its third column on
-- wrong: flag bytes stand with the highest first
-- wrong: omitted flag bytes are the first ones
-- wrong: Mem3Blt has no brush
-- wrong: Mem3Blt has no source
-- wrong: Mem3Blt takes the brush for the source
-- wrong: a Mem3Blt's brush begins at the rectangle's corner
pub brush_image_and_picture_are_mixed : makes (orders 4 (filled_with 0x5A 0xC3 0x0F ++ (cached_image 0 ++ (cached_brush 2 ++ (
    -- Mem3Blt: left +1, width +6, height +4, rop B8, xSrc +2, style 85, hatch 2
    0x59 ∷ 0x0E ∷ 0x7A ∷ 0x30 ∷
    0x01 ∷ 0x06 ∷ 0x04 ∷ 0xB8 ∷ 0x02 ∷ 0x85 ∷ 0x02 ∷ [])))) ++ mark) ≡ picture 2 0 (
    Some 0x5AC30F ∷ Some 0xBE03CE ∷ Some 0xD6A12D ∷ Some 0x52C31F ∷ Some 0x32E447 ∷ Some 0x58CF0B ∷ Some 0x2AE70A ∷ Some 0x5AC30F ∷
    Some 0x5AC30F ∷ Some 0x74D381 ∷ Some 0xDAC72D ∷ Some 0x6EC20F ∷ Some 0x12898D ∷ Some 0x5BDB0F ∷ Some 0x5AC327 ∷ Some 0x5AC30F ∷
    Some 0x5AC30F ∷ Some 0x58C729 ∷ Some 0x4EC31F ∷ Some 0x1EEF4F ∷ Some 0x74B317 ∷ Some 0x0AAB0D ∷ Some 0x6ADB27 ∷ Some 0x5AC30F ∷
    Some 0x5AC30F ∷ Some 0x3EC7B4 ∷ Some 0xDAF21F ∷ Some 0x5BF38F ∷ Some 0x1E8244 ∷ Some 0x6AD16B ∷ Some 0x1ED31F ∷ Some 0x5AC30F ∷ [])
unfolding ternary_raster
brush_image_and_picture_are_mixed = refl

-- code CA: the image where the brush has a 1, and the picture where it has a 0, within the columns 2 to 3 and the rows 1 to 2
-- wrong: Mem3Blt has no bounds
pub brush_image_and_picture_in_bounds : makes (orders 4 (filled_with 0x01 0x02 0x03 ++ (cached_image 0 ++ (cached_brush 2 ++ (
    -- Mem3Blt: left edge +2, top edge +1, right edge +3, bottom edge +2, left +1, width +6, height +4, rop CA, style 85, hatch 2
    0x5D ∷ 0x0E ∷ 0x3A ∷ 0x30 ∷
    0xF0 ∷ 0x02 ∷ 0x01 ∷ 0x03 ∷ 0x02 ∷ 0x01 ∷ 0x06 ∷ 0x04 ∷ 0xCA ∷ 0x85 ∷ 0x02 ∷ [])))) ++ mark) ≡ picture 2 0 (
    Some 0x010203 ∷ Some 0x010203 ∷ Some 0x010203 ∷ Some 0x010203 ∷ Some 0x010203 ∷ Some 0x010203 ∷ Some 0x010203 ∷ Some 0x010203 ∷
    Some 0x010203 ∷ Some 0x010203 ∷ Some 0x070002 ∷ Some 0x018210 ∷ Some 0x010203 ∷ Some 0x010203 ∷ Some 0x010203 ∷ Some 0x010203 ∷
    Some 0x010203 ∷ Some 0x010203 ∷ Some 0x010319 ∷ Some 0x19CA01 ∷ Some 0x010203 ∷ Some 0x010203 ∷ Some 0x010203 ∷ Some 0x010203 ∷
    Some 0x010203 ∷ Some 0x010203 ∷ Some 0x010203 ∷ Some 0x010203 ∷ Some 0x010203 ∷ Some 0x010203 ∷ Some 0x010203 ∷ Some 0x010203 ∷ [])
unfolding ternary_raster
brush_image_and_picture_in_bounds = refl

-- the brush's extra bytes, back and fore are anything
-- wrong: a Mem3Blt with back is refused
-- wrong: a Mem3Blt with fore is refused
pub extra_and_colors_of_a_mem3_are_not_read : makes (orders 4 (filled_with 0x01 0x02 0x03 ++ (cached_image 0 ++ (cached_brush 2 ++ (
    -- Mem3Blt: left +1, width +4, height +4, rop B8, back 000005, fore 000006, style 85, hatch 2, extra
    0x59 ∷ 0x0E ∷ 0x3A ∷ 0x73 ∷
    0x01 ∷ 0x04 ∷ 0x04 ∷ 0xB8 ∷ 0x00 ∷ 0x00 ∷ 0x05 ∷ 0x00 ∷ 0x00 ∷ 0x06 ∷ 0x85 ∷ 0x02 ∷ 0x4D ∷ 0x00 ∷ 0x00 ∷ 0x00 ∷ 0x00 ∷ 0x00 ∷ 0x00 ∷ [])))) ++ mark)
    ≡ picture 2 0 (
    Some 0x010203 ∷ Some 0x830203 ∷ Some 0x219233 ∷ Some 0x6336D3 ∷ Some 0x01E483 ∷ Some 0x010203 ∷ Some 0x010203 ∷ Some 0x010203 ∷
    Some 0x010203 ∷ Some 0x251301 ∷ Some 0xD9DF29 ∷ Some 0xED000B ∷ Some 0x8102A1 ∷ Some 0x010203 ∷ Some 0x010203 ∷ Some 0x010203 ∷
    Some 0x010203 ∷ Some 0x190109 ∷ Some 0x2D2A07 ∷ Some 0x25265F ∷ Some 0x050217 ∷ Some 0x010203 ∷ Some 0x010203 ∷ Some 0x010203 ∷
    Some 0x010203 ∷ Some 0x29C6B1 ∷ Some 0x114223 ∷ Some 0x6116A4 ∷ Some 0x840251 ∷ Some 0x010203 ∷ Some 0x010203 ∷ Some 0x010203 ∷ [])
unfolding ternary_raster
extra_and_colors_of_a_mem3_are_not_read = refl

-- columns 5 to 8 of an image of eight
pub source_of_a_mem3_past_its_image : makes (orders 4 (filled_with 0x01 0x02 0x03 ++ (cached_image 0 ++ (cached_brush 2 ++ (
    -- Mem3Blt: left +1, width +4, height +4, rop B8, xSrc +5, style 85, hatch 2
    0x59 ∷ 0x0E ∷ 0x7A ∷ 0x30 ∷
    0x01 ∷ 0x04 ∷ 0x04 ∷ 0xB8 ∷ 0x05 ∷ 0x85 ∷ 0x02 ∷ [])))) ++ mark) ≡ refused 33 Broken
source_of_a_mem3_past_its_image = refl

-- wrong: a brush with orgX is accepted
-- wrong: a Mem3Blt with orgX is accepted
pub column_origin_of_a_mem3 : makes (orders 4 (filled_with 0x01 0x02 0x03 ++ (cached_image 0 ++ (cached_brush 2 ++ (
    -- Mem3Blt: left +1, width +4, height +4, rop B8, orgX 1, style 85, hatch 2
    0x59 ∷ 0x0E ∷ 0x3A ∷ 0x34 ∷
    0x01 ∷ 0x04 ∷ 0x04 ∷ 0xB8 ∷ 0x01 ∷ 0x85 ∷ 0x02 ∷ [])))) ++ mark) ≡ refused 33 Broken
column_origin_of_a_mem3 = refl

-- wrong: a brush with orgY is accepted
-- wrong: a Mem3Blt with orgY is accepted
pub row_origin_of_a_mem3 : makes (orders 4 (filled_with 0x01 0x02 0x03 ++ (cached_image 0 ++ (cached_brush 2 ++ (
    -- Mem3Blt: left +1, width +4, height +4, rop B8, orgY 1, style 85, hatch 2
    0x59 ∷ 0x0E ∷ 0x3A ∷ 0x38 ∷
    0x01 ∷ 0x04 ∷ 0x04 ∷ 0xB8 ∷ 0x01 ∷ 0x85 ∷ 0x02 ∷ [])))) ++ mark) ≡ refused 33 Broken
row_origin_of_a_mem3 = refl

-- a brush of another style, and an image that isn't there
-- wrong: a brush of another style is accepted
-- wrong: a Mem3Blt of another style is accepted
pub style_is_tested_before_the_image : makes (orders 2 (filled_with 0x01 0x02 0x03 ++ (
    -- Mem3Blt: width +1, height +1, rop CC, style 84, index 1
    0x59 ∷ 0x0E ∷ 0x38 ∷ 0x90 ∷
    0x01 ∷ 0x01 ∷ 0xCC ∷ 0x84 ∷ 0x01 ∷ 0x00 ∷ [])) ++ mark) ≡ refused 32 Broken
style_is_tested_before_the_image = refl

-- a source that is wider than its image, and a brush that isn't there
-- wrong: a Mem3Blt's brush is looked up before its image
pub source_is_tested_before_the_brush : makes (orders 3 (small_image ++ (
    -- OpaqueRect: width +8, height +4, red 01, green 02, blue 03
    0x19 ∷ 0x0A ∷ 0x7C ∷
    0x08 ∷ 0x04 ∷ 0x01 ∷ 0x02 ∷ 0x03 ∷
    -- Mem3Blt: width +5, height +1, rop CC, style 85, hatch 9
    0x59 ∷ 0x0E ∷ 0x38 ∷ 0x30 ∷
    0x05 ∷ 0x01 ∷ 0xCC ∷ 0x85 ∷ 0x09 ∷ [])) ++ mark) ≡ refused 32 Broken
source_is_tested_before_the_brush = refl

-- the source is whole, and so the brush is what is missed
-- wrong: an empty entry is past its cache
pub brush_of_a_mem3_is_empty : makes (orders 3 (small_image ++ (
    -- OpaqueRect: width +8, height +4, red 01, green 02, blue 03
    0x19 ∷ 0x0A ∷ 0x7C ∷
    0x08 ∷ 0x04 ∷ 0x01 ∷ 0x02 ∷ 0x03 ∷
    -- Mem3Blt: width +4, height +1, rop CC, style 85, hatch 9
    0x59 ∷ 0x0E ∷ 0x38 ∷ 0x30 ∷
    0x04 ∷ 0x01 ∷ 0xCC ∷ 0x85 ∷ 0x09 ∷ [])) ++ mark) ≡ refused 32 (Empty 13 9)
brush_of_a_mem3_is_empty = refl

-- a brush's pixel goes by its place on the surface, and not in the rectangle
-- wrong: left and top of a rectangle are swapped
-- wrong: width and height of a rectangle are swapped
-- wrong: a brush begins at the rectangle's corner
pub brush_is_not_moved_by_an_odd_corner : makes (orders 2 (cached_brush 0 ++ (
    -- PatBlt: left +3, top +1, width +5, height +3, rop F0, style 85
    0x11 ∷ 0x1F ∷ 0x02 ∷
    0x03 ∷ 0x01 ∷ 0x05 ∷ 0x03 ∷ 0xF0 ∷ 0x85 ∷ [])) ++ mark) ≡ picture 1 0 (
    None ∷ None ∷ None ∷ None ∷ None ∷ None ∷ None ∷ None ∷
    None ∷ None ∷ None ∷ Some 0xEC801B ∷ Some 0xB119A9 ∷ Some 0x51DAFD ∷ Some 0x5F9726 ∷ Some 0x10363C ∷
    None ∷ None ∷ None ∷ Some 0x3CEE5E ∷ Some 0x243A16 ∷ Some 0x0EA90D ∷ Some 0x6F1C67 ∷ Some 0x21E6A4 ∷
    None ∷ None ∷ None ∷ Some 0x73B7A4 ∷ Some 0x868254 ∷ Some 0xE255F3 ∷ Some 0x17B99D ∷ Some 0x6C2EA4 ∷ [])
unfolding ternary_raster
brush_is_not_moved_by_an_odd_corner = refl

-- code 5A is brush xor picture, within the columns 1 to 5 and the rows 1 to 2
-- wrong: PatBlt has no bounds
pub brush_over_a_picture_in_bounds : makes (orders 3 (filled_with 0x09 0x63 0xC7 ++ (cached_brush 0 ++ (
    -- PatBlt: left edge +1, top edge +1, right edge +5, bottom edge +2, width +8, height +4, rop 5A, style 85
    0x1D ∷ 0x01 ∷ 0x1C ∷ 0x02 ∷
    0xF0 ∷ 0x01 ∷ 0x01 ∷ 0x05 ∷ 0x02 ∷ 0x08 ∷ 0x04 ∷ 0x5A ∷ 0x85 ∷ []))) ++ mark) ≡ picture 2 0 (
    Some 0x0963C7 ∷ Some 0x0963C7 ∷ Some 0x0963C7 ∷ Some 0x0963C7 ∷ Some 0x0963C7 ∷ Some 0x0963C7 ∷ Some 0x0963C7 ∷ Some 0x0963C7 ∷
    Some 0x0963C7 ∷ Some 0x6CD046 ∷ Some 0xD6BCEE ∷ Some 0xE5E3DC ∷ Some 0xB87A6E ∷ Some 0x58B93A ∷ Some 0x0963C7 ∷ Some 0x0963C7 ∷
    Some 0x0963C7 ∷ Some 0x11E6EF ∷ Some 0x2548D9 ∷ Some 0x358D99 ∷ Some 0x2D59D1 ∷ Some 0x07CACA ∷ Some 0x0963C7 ∷ Some 0x0963C7 ∷
    Some 0x0963C7 ∷ Some 0x0963C7 ∷ Some 0x0963C7 ∷ Some 0x0963C7 ∷ Some 0x0963C7 ∷ Some 0x0963C7 ∷ Some 0x0963C7 ∷ Some 0x0963C7 ∷ [])
unfolding ternary_raster
brush_over_a_picture_in_bounds = refl

-- what depends on an unknown pixel stays unknown; code 0F, the brush inverted, depends on none
pub brush_over_unknown_pixels : makes (orders 3 (cached_brush 0 ++ (
    -- PatBlt: width +4, height +2, rop 5A, style 85
    0x11 ∷ 0x1C ∷ 0x02 ∷
    0x04 ∷ 0x02 ∷ 0x5A ∷ 0x85 ∷
    -- PatBlt: left +4, height +2, rop 0F
    0x51 ∷ 0x19 ∷
    0x04 ∷ 0x02 ∷ 0x0F ∷ [])) ++ mark) ≡ picture 2 0 (
    None ∷ None ∷ None ∷ None ∷ Some 0xDD1B38 ∷ Some 0xE77235 ∷ Some 0xD540FF ∷ Some 0x1CDC44 ∷
    None ∷ None ∷ None ∷ None ∷ Some 0x4EE656 ∷ Some 0xAE2502 ∷ Some 0xA068D9 ∷ Some 0xEFC9C3 ∷
    None ∷ None ∷ None ∷ None ∷ Some 0xDBC5E9 ∷ Some 0xF156F2 ∷ Some 0x90E398 ∷ Some 0xDE195B ∷
    None ∷ None ∷ None ∷ None ∷ Some 0x797DAB ∷ Some 0x1DAA0C ∷ Some 0xE84662 ∷ Some 0x93D15B ∷ [])
unfolding ternary_raster
brush_over_unknown_pixels = refl

-- entry 63; the last row of the bytes is the top one
-- wrong: the last type is DstBlt at first
-- wrong: the last type is OpaqueRect at first
-- wrong: a brush's rows go from the top
-- wrong: PatBlt has no brush
-- wrong: the brush cache has 63 entries
-- wrong: a brush's pixels go column by column
pub rows_of_a_brush : makes (orders 2 (cached_brush 63 ++ (
    -- PatBlt: width +8, height +4, rop F0, style 85, hatch 63
    0x11 ∷ 0x1C ∷ 0x06 ∷
    0x08 ∷ 0x04 ∷ 0xF0 ∷ 0x85 ∷ 0x3F ∷ [])) ++ mark) ≡ picture 1 0 (
    Some 0x32976A ∷ Some 0xA701C6 ∷ Some 0xE6B03D ∷ Some 0x6237DB ∷ Some 0x22E4C7 ∷ Some 0x188DCA ∷ Some 0x2ABF00 ∷ Some 0xE323BB ∷
    Some 0x9AD93B ∷ Some 0x65B381 ∷ Some 0xDFDF29 ∷ Some 0xEC801B ∷ Some 0xB119A9 ∷ Some 0x51DAFD ∷ Some 0x5F9726 ∷ Some 0x10363C ∷
    Some 0x3B73A6 ∷ Some 0x188528 ∷ Some 0x2C2B1E ∷ Some 0x3CEE5E ∷ Some 0x243A16 ∷ Some 0x0EA90D ∷ Some 0x6F1C67 ∷ Some 0x21E6A4 ∷
    Some 0x174A67 ∷ Some 0x2CC4B4 ∷ Some 0x90F23B ∷ Some 0x73B7A4 ∷ Some 0x868254 ∷ Some 0xE255F3 ∷ Some 0x17B99D ∷ Some 0x6C2EA4 ∷ [])
unfolding ternary_raster
rows_of_a_brush = refl

-- code 55 inverts the picture, and an empty entry is refused all the same
-- wrong: a brush that the code does not need is not looked up
pub brush_that_the_code_does_not_need : makes (orders 1 (
    -- PatBlt: width +8, height +4, rop 55, style 85, hatch 5
    0x11 ∷ 0x1C ∷ 0x06 ∷
    0x08 ∷ 0x04 ∷ 0x55 ∷ 0x85 ∷ 0x05 ∷ []) ++ mark) ≡ refused 32 (Empty 13 5)
brush_that_the_code_does_not_need = refl

-- code 55 inverts the picture, and an empty entry is refused all the same
pub image_that_the_code_does_not_need : makes (orders 1 (
    -- MemBlt: width +8, height +4, rop 55, index 1
    0x19 ∷ 0x0D ∷ 0x38 ∷ 0x01 ∷
    0x08 ∷ 0x04 ∷ 0x55 ∷ 0x01 ∷ 0x00 ∷ []) ++ mark) ≡ refused 32 (Empty 0 1)
image_that_the_code_does_not_need = refl

-- the brush's extra bytes, back and fore are anything
-- wrong: a brush with extra bytes is refused
-- wrong: a PatBlt with back is refused
-- wrong: a PatBlt with fore is refused
-- wrong: a PatBlt with extra is refused
pub extra_and_colors_of_a_brush_are_not_read : makes (orders 2 (cached_brush_of 2 (replicate 192 0x2A) ++ (
    -- PatBlt: width +8, height +4, rop F0, back 000005, fore 000006, style 85, hatch 2, extra
    0x11 ∷ 0x7C ∷ 0x0E ∷
    0x08 ∷ 0x04 ∷ 0xF0 ∷ 0x00 ∷ 0x00 ∷ 0x05 ∷ 0x00 ∷ 0x00 ∷ 0x06 ∷ 0x85 ∷ 0x02 ∷
    0x4D ∷ 0x00 ∷ 0x00 ∷ 0x00 ∷ 0x00 ∷ 0x00 ∷ 0x00 ∷ [])) ++ mark) ≡ picture 1 0 (replicate 32 (Some 0x2A2A2A))
unfolding ternary_raster
extra_and_colors_of_a_brush_are_not_read = refl

-- two of its columns, from column 2 and row 1 on
-- wrong: a MemBlt's xSrc is ignored
-- wrong: a MemBlt's ySrc is ignored
-- wrong: xSrc and ySrc of a MemBlt are swapped
pub lower_row_of_an_image : makes (orders 3 (filled_with 0x01 0x02 0x03 ++ (small_image ++ (
    -- MemBlt: width +2, height +1, rop CC, xSrc +2, ySrc +1
    0x59 ∷ 0x0D ∷ 0xF8 ∷
    0x02 ∷ 0x01 ∷ 0xCC ∷ 0x02 ∷ 0x01 ∷ []))) ++ mark) ≡ picture 2 0 (
    Some 0x080706 ∷ Some 0x0B0A09 ∷ Some 0x010203 ∷ Some 0x010203 ∷ Some 0x010203 ∷ Some 0x010203 ∷ Some 0x010203 ∷ Some 0x010203 ∷
    Some 0x010203 ∷ Some 0x010203 ∷ Some 0x010203 ∷ Some 0x010203 ∷ Some 0x010203 ∷ Some 0x010203 ∷ Some 0x010203 ∷ Some 0x010203 ∷
    Some 0x010203 ∷ Some 0x010203 ∷ Some 0x010203 ∷ Some 0x010203 ∷ Some 0x010203 ∷ Some 0x010203 ∷ Some 0x010203 ∷ Some 0x010203 ∷
    Some 0x010203 ∷ Some 0x010203 ∷ Some 0x010203 ∷ Some 0x010203 ∷ Some 0x010203 ∷ Some 0x010203 ∷ Some 0x010203 ∷ Some 0x010203 ∷ [])
unfolding ternary_raster
lower_row_of_an_image = refl

-- the same by a Mem3Blt, whose code takes the image alone
-- wrong: a Mem3Blt's xSrc is ignored
-- wrong: a Mem3Blt's ySrc is ignored
-- wrong: xSrc and ySrc of a Mem3Blt are swapped
pub lower_row_of_an_image_with_a_brush : makes (orders 4 (filled_with 0x01 0x02 0x03 ++ (small_image ++ (cached_brush 2 ++ (
    -- Mem3Blt: width +2, height +1, rop CC, xSrc +2, ySrc +1, style 85, hatch 2
    0x59 ∷ 0x0E ∷ 0xF8 ∷ 0x30 ∷
    0x02 ∷ 0x01 ∷ 0xCC ∷ 0x02 ∷ 0x01 ∷ 0x85 ∷ 0x02 ∷ [])))) ++ mark) ≡ picture 2 0 (
    Some 0x080706 ∷ Some 0x0B0A09 ∷ Some 0x010203 ∷ Some 0x010203 ∷ Some 0x010203 ∷ Some 0x010203 ∷ Some 0x010203 ∷ Some 0x010203 ∷
    Some 0x010203 ∷ Some 0x010203 ∷ Some 0x010203 ∷ Some 0x010203 ∷ Some 0x010203 ∷ Some 0x010203 ∷ Some 0x010203 ∷ Some 0x010203 ∷
    Some 0x010203 ∷ Some 0x010203 ∷ Some 0x010203 ∷ Some 0x010203 ∷ Some 0x010203 ∷ Some 0x010203 ∷ Some 0x010203 ∷ Some 0x010203 ∷
    Some 0x010203 ∷ Some 0x010203 ∷ Some 0x010203 ∷ Some 0x010203 ∷ Some 0x010203 ∷ Some 0x010203 ∷ Some 0x010203 ∷ Some 0x010203 ∷ [])
unfolding ternary_raster
lower_row_of_an_image_with_a_brush = refl

-- the entry is there
-- wrong: a PatBlt with orgX is accepted
pub column_origin_of_a_brush : makes (orders 2 (cached_brush 2 ++ (
    -- PatBlt: width +8, height +4, rop F0, orgX 1, style 85, hatch 2
    0x11 ∷ 0x9C ∷ 0x06 ∷
    0x08 ∷ 0x04 ∷ 0xF0 ∷ 0x01 ∷ 0x85 ∷ 0x02 ∷ [])) ++ mark) ≡ refused 33 Broken
column_origin_of_a_brush = refl

-- the entry is there
-- wrong: a PatBlt with orgY is accepted
pub row_origin_of_a_brush : makes (orders 2 (cached_brush 2 ++ (
    -- PatBlt: width +8, height +4, rop F0, orgY 1, style 85, hatch 2
    0x11 ∷ 0x1C ∷ 0x07 ∷
    0x08 ∷ 0x04 ∷ 0xF0 ∷ 0x01 ∷ 0x85 ∷ 0x02 ∷ [])) ++ mark) ≡ refused 33 Broken
row_origin_of_a_brush = refl
