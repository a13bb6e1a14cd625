-- What a viewer makes of MemBlt, ScrBlt and DstBlt, and of cached images. A coordinate with a sign is added to the last one.
use Rattle.std.proofs.Common.{◌≡◌, [], ◌∷◌, ◌++◌, refl, Some, None, replicate}
use Rattle.rop3_core.specs.Rop3.{ternary_raster}
use Rattle.order_means.specs.ClientState.Fault.{Broken}
use Rattle.wire_examples.proofs.Streams.{orders, mark, filled_with, cached_image, small_image, makes, picture, refused}

-- rows of the image's bytes go from the bottom up
-- wrong: a source up to the last column or row of its image is refused
-- wrong: MemBlt has no source
-- wrong: rows of a bitmap go from the top
-- wrong: pixels stand as red, green, blue
-- wrong: a raw bitmap has flags 0400
pub image_of_the_whole_surface : makes (orders 3 (filled_with 0x01 0x02 0x03 ++ (cached_image 0 ++ (
    -- MemBlt: width +8, height +4, rop CC
    0x59 ∷ 0x0D ∷ 0x38 ∷
    0x08 ∷ 0x04 ∷ 0xCC ∷ []))) ++ mark) ≡ picture 2 0 (
    Some 0x3C17E5 ∷ Some 0xCF26CF ∷ Some 0x190B0E ∷ Some 0x331155 ∷ Some 0x73F6C5 ∷ Some 0x17C8B5 ∷ Some 0xC1E2EB ∷ Some 0x01597A ∷
    Some 0x48A6A1 ∷ Some 0x270044 ∷ Some 0x11E950 ∷ Some 0x35BB5C ∷ Some 0x83D614 ∷ Some 0xB3B465 ∷ Some 0x9E47FB ∷ Some 0x577703 ∷
    Some 0xC7E435 ∷ Some 0xC357B9 ∷ Some 0x59CB01 ∷ Some 0x6BF829 ∷ Some 0xBB41B3 ∷ Some 0x518DE3 ∷ Some 0x861674 ∷ Some 0xC5C7D1 ∷
    Some 0x070205 ∷ Some 0xA9B81A ∷ Some 0x93EB40 ∷ Some 0x4A8AA5 ∷ Some 0x78442B ∷ Some 0xBB0C34 ∷ Some 0x8FAC9A ∷ Some 0x396BCB ∷ [])
unfolding ternary_raster
image_of_the_whole_surface = refl

-- the source begins left of its image
-- wrong: a source that goes past one side of its image is accepted
-- wrong: a source partly inside its image is enough
pub image_a_column_left : makes (orders 3 (filled_with 0x01 0x02 0x03 ++ (cached_image 0 ++ (
    -- MemBlt: width +8, height +4, rop CC, xSrc -1
    0x59 ∷ 0x0D ∷ 0x78 ∷
    0x08 ∷ 0x04 ∷ 0xCC ∷ 0xFF ∷ []))) ++ mark) ≡ refused 33 Broken
image_a_column_left = refl

-- the source begins above its image
pub image_a_row_above : makes (orders 3 (filled_with 0x01 0x02 0x03 ++ (cached_image 0 ++ (
    -- MemBlt: width +8, height +4, rop CC, ySrc -1
    0x59 ∷ 0x0D ∷ 0xB8 ∷
    0x08 ∷ 0x04 ∷ 0xCC ∷ 0xFF ∷ []))) ++ mark) ≡ refused 33 Broken
image_a_row_above = refl

-- the source ends right of its image
pub image_a_column_right : makes (orders 3 (filled_with 0x01 0x02 0x03 ++ (cached_image 0 ++ (
    -- MemBlt: width +8, height +4, rop CC, xSrc +1
    0x59 ∷ 0x0D ∷ 0x78 ∷
    0x08 ∷ 0x04 ∷ 0xCC ∷ 0x01 ∷ []))) ++ mark) ≡ refused 33 Broken
image_a_column_right = refl

-- the source ends below its image
pub image_a_row_below : makes (orders 3 (filled_with 0x01 0x02 0x03 ++ (cached_image 0 ++ (
    -- MemBlt: width +8, height +4, rop CC, ySrc +1
    0x59 ∷ 0x0D ∷ 0xB8 ∷
    0x08 ∷ 0x04 ∷ 0xCC ∷ 0x01 ∷ []))) ++ mark) ≡ refused 33 Broken
image_a_row_below = refl

-- code CA takes the image where the pattern has a 1; there is no pattern, which counts as 0
-- wrong: MemBlt has its image for the pattern too
pub image_with_a_code_of_a_pattern : makes (orders 3 (filled_with 0x5A 0xC3 0x0F ++ (cached_image 0 ++ (
    -- MemBlt: left edge +1, top edge +1, right edge +6, bottom edge +3, width +8, height +4, rop CA
    0x5D ∷ 0x0D ∷ 0x38 ∷
    0xF0 ∷ 0x01 ∷ 0x01 ∷ 0x06 ∷ 0x03 ∷ 0x08 ∷ 0x04 ∷ 0xCA ∷ []))) ++ mark) ≡ picture 2 0 (replicate 32 (Some 0x5AC30F))
unfolding ternary_raster
image_with_a_code_of_a_pattern = refl

-- wrong: MemBlt has no bounds
pub image_in_bounds : makes (orders 3 (filled_with 0x01 0x02 0x03 ++ (cached_image 0 ++ (
    -- MemBlt: left edge +2, top edge +1, right edge +4, bottom edge +3, width +8, height +4, rop CC
    0x5D ∷ 0x0D ∷ 0x38 ∷
    0xF0 ∷ 0x02 ∷ 0x01 ∷ 0x04 ∷ 0x03 ∷ 0x08 ∷ 0x04 ∷ 0xCC ∷ []))) ++ mark) ≡ picture 2 0 (
    Some 0x010203 ∷ Some 0x010203 ∷ Some 0x010203 ∷ Some 0x010203 ∷ Some 0x010203 ∷ Some 0x010203 ∷ Some 0x010203 ∷ Some 0x010203 ∷
    Some 0x010203 ∷ Some 0x010203 ∷ Some 0x11E950 ∷ Some 0x35BB5C ∷ Some 0x83D614 ∷ Some 0x010203 ∷ Some 0x010203 ∷ Some 0x010203 ∷
    Some 0x010203 ∷ Some 0x010203 ∷ Some 0x59CB01 ∷ Some 0x6BF829 ∷ Some 0xBB41B3 ∷ Some 0x010203 ∷ Some 0x010203 ∷ Some 0x010203 ∷
    Some 0x010203 ∷ Some 0x010203 ∷ Some 0x93EB40 ∷ Some 0x4A8AA5 ∷ Some 0x78442B ∷ Some 0x010203 ∷ Some 0x010203 ∷ Some 0x010203 ∷ [])
unfolding ternary_raster
image_in_bounds = refl

-- the rectangle lies partly outside the surface, its source is all four columns
-- wrong: a source may not lie in the columns that were added
pub whole_width_of_a_padded_image : makes (orders 3 (small_image ++ (
    -- OpaqueRect: width +8, height +4, red 01, green 02, blue 03
    0x19 ∷ 0x0A ∷ 0x7C ∷
    0x08 ∷ 0x04 ∷ 0x01 ∷ 0x02 ∷ 0x03 ∷
    -- MemBlt: left -1, top +3, width +4, height +2, rop CC
    0x59 ∷ 0x0D ∷ 0x3E ∷
    0xFF ∷ 0x03 ∷ 0x04 ∷ 0x02 ∷ 0xCC ∷ [])) ++ mark) ≡ picture 2 0 (
    Some 0x010203 ∷ Some 0x010203 ∷ Some 0x010203 ∷ Some 0x010203 ∷ Some 0x010203 ∷ Some 0x010203 ∷ Some 0x010203 ∷ Some 0x010203 ∷
    Some 0x010203 ∷ Some 0x010203 ∷ Some 0x010203 ∷ Some 0x010203 ∷ Some 0x010203 ∷ Some 0x010203 ∷ Some 0x010203 ∷ Some 0x010203 ∷
    Some 0x010203 ∷ Some 0x010203 ∷ Some 0x010203 ∷ Some 0x010203 ∷ Some 0x010203 ∷ Some 0x010203 ∷ Some 0x010203 ∷ Some 0x010203 ∷
    Some 0x11100F ∷ Some 0x141312 ∷ Some 0x171615 ∷ Some 0x010203 ∷ Some 0x010203 ∷ Some 0x010203 ∷ Some 0x010203 ∷ Some 0x010203 ∷ [])
unfolding ternary_raster
whole_width_of_a_padded_image = refl

-- there are bitmap caches 0 to 2
-- wrong: there is a bitmap cache 3
pub image_of_cache_three : makes (orders 2 (filled_with 0x01 0x02 0x03 ++ (
    -- MemBlt: cacheId 3, width +1, height +1, rop CC, index 9
    0x19 ∷ 0x0D ∷ 0x39 ∷ 0x01 ∷
    0x03 ∷ 0x00 ∷ 0x01 ∷ 0x01 ∷ 0xCC ∷ 0x09 ∷ 0x00 ∷ [])) ++ mark) ≡ refused 32 Broken
image_of_cache_three = refl

-- to two columns right and a row down
-- wrong: a source up to the last column or row of the surface is refused
-- wrong: a copy works on the picture that it changes, row by row
-- wrong: a copy is drawn row by row from the top, each from what is there then
pub copy_of_the_whole_surface : makes (orders 3 (
    -- OpaqueRect: width +5, height +4, red 01, green 02, blue 03
    0x19 ∷ 0x0A ∷ 0x7C ∷
    0x05 ∷ 0x04 ∷ 0x01 ∷ 0x02 ∷ 0x03 ∷
    -- OpaqueRect: left +5, width -3, height -1, red 07, green 08, blue 09
    0x11 ∷ 0x7D ∷
    0x05 ∷ 0xFD ∷ 0xFF ∷ 0x07 ∷ 0x08 ∷ 0x09 ∷
    -- ScrBlt: left +2, top +1, width +8, height +4, rop CC
    0x19 ∷ 0x02 ∷ 0x1F ∷
    0x02 ∷ 0x01 ∷ 0x08 ∷ 0x04 ∷ 0xCC ∷ []) ++ mark) ≡ picture 3 0 (
    Some 0x010203 ∷ Some 0x010203 ∷ Some 0x010203 ∷ Some 0x010203 ∷ Some 0x010203 ∷ Some 0x070809 ∷ Some 0x070809 ∷ None ∷
    Some 0x010203 ∷ Some 0x010203 ∷ Some 0x010203 ∷ Some 0x010203 ∷ Some 0x010203 ∷ Some 0x010203 ∷ Some 0x010203 ∷ Some 0x070809 ∷
    Some 0x010203 ∷ Some 0x010203 ∷ Some 0x010203 ∷ Some 0x010203 ∷ Some 0x010203 ∷ Some 0x010203 ∷ Some 0x010203 ∷ Some 0x070809 ∷
    Some 0x010203 ∷ Some 0x010203 ∷ Some 0x010203 ∷ Some 0x010203 ∷ Some 0x010203 ∷ Some 0x010203 ∷ Some 0x010203 ∷ Some 0x070809 ∷ [])
unfolding ternary_raster
copy_of_the_whole_surface = refl

-- wrong: a source that goes past one side of the surface is accepted
-- wrong: a source partly inside the surface is enough
pub copy_a_column_left : makes (orders 3 (
    -- OpaqueRect: width +5, height +4, red 01, green 02, blue 03
    0x19 ∷ 0x0A ∷ 0x7C ∷
    0x05 ∷ 0x04 ∷ 0x01 ∷ 0x02 ∷ 0x03 ∷
    -- OpaqueRect: left +5, width -3, height -1, red 07, green 08, blue 09
    0x11 ∷ 0x7D ∷
    0x05 ∷ 0xFD ∷ 0xFF ∷ 0x07 ∷ 0x08 ∷ 0x09 ∷
    -- ScrBlt: left +2, top +1, width +8, height +4, rop CC, xSrc -1
    0x19 ∷ 0x02 ∷ 0x3F ∷
    0x02 ∷ 0x01 ∷ 0x08 ∷ 0x04 ∷ 0xCC ∷ 0xFF ∷ []) ++ mark) ≡ refused 32 Broken
copy_a_column_left = refl

pub copy_a_row_above : makes (orders 3 (
    -- OpaqueRect: width +5, height +4, red 01, green 02, blue 03
    0x19 ∷ 0x0A ∷ 0x7C ∷
    0x05 ∷ 0x04 ∷ 0x01 ∷ 0x02 ∷ 0x03 ∷
    -- OpaqueRect: left +5, width -3, height -1, red 07, green 08, blue 09
    0x11 ∷ 0x7D ∷
    0x05 ∷ 0xFD ∷ 0xFF ∷ 0x07 ∷ 0x08 ∷ 0x09 ∷
    -- ScrBlt: left +2, top +1, width +8, height +4, rop CC, ySrc -1
    0x19 ∷ 0x02 ∷ 0x5F ∷
    0x02 ∷ 0x01 ∷ 0x08 ∷ 0x04 ∷ 0xCC ∷ 0xFF ∷ []) ++ mark) ≡ refused 32 Broken
copy_a_row_above = refl

pub copy_a_column_right : makes (orders 3 (
    -- OpaqueRect: width +5, height +4, red 01, green 02, blue 03
    0x19 ∷ 0x0A ∷ 0x7C ∷
    0x05 ∷ 0x04 ∷ 0x01 ∷ 0x02 ∷ 0x03 ∷
    -- OpaqueRect: left +5, width -3, height -1, red 07, green 08, blue 09
    0x11 ∷ 0x7D ∷
    0x05 ∷ 0xFD ∷ 0xFF ∷ 0x07 ∷ 0x08 ∷ 0x09 ∷
    -- ScrBlt: left +2, top +1, width +8, height +4, rop CC, xSrc +1
    0x19 ∷ 0x02 ∷ 0x3F ∷
    0x02 ∷ 0x01 ∷ 0x08 ∷ 0x04 ∷ 0xCC ∷ 0x01 ∷ []) ++ mark) ≡ refused 32 Broken
copy_a_column_right = refl

pub copy_a_row_below : makes (orders 3 (
    -- OpaqueRect: width +5, height +4, red 01, green 02, blue 03
    0x19 ∷ 0x0A ∷ 0x7C ∷
    0x05 ∷ 0x04 ∷ 0x01 ∷ 0x02 ∷ 0x03 ∷
    -- OpaqueRect: left +5, width -3, height -1, red 07, green 08, blue 09
    0x11 ∷ 0x7D ∷
    0x05 ∷ 0xFD ∷ 0xFF ∷ 0x07 ∷ 0x08 ∷ 0x09 ∷
    -- ScrBlt: left +2, top +1, width +8, height +4, rop CC, ySrc +1
    0x19 ∷ 0x02 ∷ 0x5F ∷
    0x02 ∷ 0x01 ∷ 0x08 ∷ 0x04 ∷ 0xCC ∷ 0x01 ∷ []) ++ mark) ≡ refused 32 Broken
copy_a_row_below = refl

-- codes B8 and 66 without pattern and source, which count as 0; the second one has bounds
-- wrong: an operand that an order does not have counts as white
pub operation_with_a_code_of_three_operands : makes (orders 3 (filled_with 0x5A 0xC3 0x0F ++ (
    -- DstBlt: width +4, height +4, rop B8
    0x19 ∷ 0x00 ∷ 0x1C ∷
    0x04 ∷ 0x04 ∷ 0xB8 ∷
    -- DstBlt: left edge +5, right edge +6, bottom edge +1, left +4, rop 66
    0x15 ∷ 0x11 ∷
    0xD0 ∷ 0x05 ∷ 0x06 ∷ 0x01 ∷ 0x04 ∷ 0x66 ∷ [])) ++ mark) ≡ picture 3 0 (
    Some 0x000000 ∷ Some 0x000000 ∷ Some 0x000000 ∷ Some 0x000000 ∷ Some 0x5AC30F ∷ Some 0x5AC30F ∷ Some 0x5AC30F ∷ Some 0x5AC30F ∷
    Some 0x000000 ∷ Some 0x000000 ∷ Some 0x000000 ∷ Some 0x000000 ∷ Some 0x5AC30F ∷ Some 0x5AC30F ∷ Some 0x5AC30F ∷ Some 0x5AC30F ∷
    Some 0x000000 ∷ Some 0x000000 ∷ Some 0x000000 ∷ Some 0x000000 ∷ Some 0x5AC30F ∷ Some 0x5AC30F ∷ Some 0x5AC30F ∷ Some 0x5AC30F ∷
    Some 0x000000 ∷ Some 0x000000 ∷ Some 0x000000 ∷ Some 0x000000 ∷ Some 0x5AC30F ∷ Some 0x5AC30F ∷ Some 0x5AC30F ∷ Some 0x5AC30F ∷ [])
unfolding ternary_raster
operation_with_a_code_of_three_operands = refl

-- wrong: DstBlt has no bounds
-- wrong: the bottom edge's delta is added to the top edge
-- wrong: the right edge is exclusive
-- wrong: the bottom edge is exclusive
pub operation_in_bounds : makes (orders 2 (filled_with 0x01 0x02 0x03 ++ (
    -- DstBlt: left edge +1, top edge +1, right edge +4, bottom edge +2, width +8, height +4, rop 55
    0x1D ∷ 0x00 ∷ 0x1C ∷
    0xF0 ∷ 0x01 ∷ 0x01 ∷ 0x04 ∷ 0x02 ∷ 0x08 ∷ 0x04 ∷ 0x55 ∷ [])) ++ mark) ≡ picture 2 0 (
    Some 0x010203 ∷ Some 0x010203 ∷ Some 0x010203 ∷ Some 0x010203 ∷ Some 0x010203 ∷ Some 0x010203 ∷ Some 0x010203 ∷ Some 0x010203 ∷
    Some 0x010203 ∷ Some 0xFEFDFC ∷ Some 0xFEFDFC ∷ Some 0xFEFDFC ∷ Some 0xFEFDFC ∷ Some 0x010203 ∷ Some 0x010203 ∷ Some 0x010203 ∷
    Some 0x010203 ∷ Some 0xFEFDFC ∷ Some 0xFEFDFC ∷ Some 0xFEFDFC ∷ Some 0xFEFDFC ∷ Some 0x010203 ∷ Some 0x010203 ∷ Some 0x010203 ∷
    Some 0x010203 ∷ Some 0x010203 ∷ Some 0x010203 ∷ Some 0x010203 ∷ Some 0x010203 ∷ Some 0x010203 ∷ Some 0x010203 ∷ Some 0x010203 ∷ [])
unfolding ternary_raster
operation_in_bounds = refl

-- codes 0, F0 and 0F don't depend on the picture and give known pixels; AA, the picture itself, leaves them unknown
-- wrong: an unknown pixel is black where the code needs it
-- wrong: what is drawn over an unknown pixel stays unknown whatever the code
-- wrong: an unknown destination counts as known
pub code_that_reads_nothing_makes_pixels_known : makes (orders 4 (
    -- DstBlt: width +2, height +1
    0x19 ∷ 0x00 ∷ 0x0C ∷
    0x02 ∷ 0x01 ∷
    -- DstBlt: top +1, rop AA
    0x11 ∷ 0x12 ∷
    0x01 ∷ 0xAA ∷
    -- DstBlt: top +1, rop F0
    0x11 ∷ 0x12 ∷
    0x01 ∷ 0xF0 ∷
    -- DstBlt: top +1, rop 0F
    0x11 ∷ 0x12 ∷
    0x01 ∷ 0x0F ∷ []) ++ mark) ≡ picture 4 0 (
    Some 0x000000 ∷ Some 0x000000 ∷ None ∷ None ∷ None ∷ None ∷ None ∷ None ∷
    None ∷ None ∷ None ∷ None ∷ None ∷ None ∷ None ∷ None ∷
    Some 0x000000 ∷ Some 0x000000 ∷ None ∷ None ∷ None ∷ None ∷ None ∷ None ∷
    Some 0xFFFFFF ∷ Some 0xFFFFFF ∷ None ∷ None ∷ None ∷ None ∷ None ∷ None ∷ [])
unfolding ternary_raster
code_that_reads_nothing_makes_pixels_known = refl

-- code 55 inverts the picture, and a source outside the surface is refused all the same
-- wrong: a source that the code does not need is not tested
pub source_that_the_code_does_not_need : makes (orders 2 (filled_with 0x01 0x02 0x03 ++ (
    -- ScrBlt: width +8, height +4, rop 55, xSrc +1
    0x19 ∷ 0x02 ∷ 0x3C ∷
    0x08 ∷ 0x04 ∷ 0x55 ∷ 0x01 ∷ [])) ++ mark) ≡ refused 32 Broken
source_that_the_code_does_not_need = refl
