-- Drawings whose width or height is below 1 are refused, whatever they draw with. A coordinate with a sign is added to the last one.
use Rattle.std.proofs.Common.{◌≡◌, [], ◌∷◌, ◌++◌, refl}
use Rattle.order_means.specs.ClientState.Fault.{Broken}
use Rattle.wire_examples.proofs.Streams.{orders, mark, filled_with, cached_image, cached_brush, makes, refused}

-- wrong: a refusal by meaning stands behind the update type
-- wrong: orders before one that means nothing are seen, and it is dropped
-- wrong: a width or a height below 1 is accepted of DstBlt
pub operation_of_no_width : makes (orders 4 (filled_with 0x01 0x02 0x03 ++ (cached_image 0 ++ (cached_brush 2 ++ (
    -- DstBlt: height +1
    0x19 ∷ 0x00 ∷ 0x08 ∷ 0x01 ∷ [])))) ++ mark) ≡ refused 33 Broken
operation_of_no_width = refl

pub operation_of_no_height : makes (orders 4 (filled_with 0x01 0x02 0x03 ++ (cached_image 0 ++ (cached_brush 2 ++ (
    -- DstBlt: width +1
    0x19 ∷ 0x00 ∷ 0x04 ∷ 0x01 ∷ [])))) ++ mark) ≡ refused 33 Broken
operation_of_no_height = refl

pub operation_of_a_negative_width : makes (orders 4 (filled_with 0x01 0x02 0x03 ++ (cached_image 0 ++ (cached_brush 2 ++ (
    -- DstBlt: width -1, height +1
    0x19 ∷ 0x00 ∷ 0x0C ∷
    0xFF ∷ 0x01 ∷ [])))) ++ mark) ≡ refused 33 Broken
operation_of_a_negative_width = refl

pub operation_of_a_negative_height : makes (orders 4 (filled_with 0x01 0x02 0x03 ++ (cached_image 0 ++ (cached_brush 2 ++ (
    -- DstBlt: width +1, height -1
    0x19 ∷ 0x00 ∷ 0x0C ∷
    0x01 ∷ 0xFF ∷ [])))) ++ mark) ≡ refused 33 Broken
operation_of_a_negative_height = refl

-- wrong: a width or a height below 1 is accepted of PatBlt
pub brush_of_no_width : makes (orders 4 (filled_with 0x01 0x02 0x03 ++ (cached_image 0 ++ (cached_brush 2 ++ (
    -- PatBlt: height +1, style 85, hatch 2
    0x19 ∷ 0x01 ∷ 0x08 ∷ 0x06 ∷
    0x01 ∷ 0x85 ∷ 0x02 ∷ [])))) ++ mark) ≡ refused 33 Broken
brush_of_no_width = refl

pub brush_of_no_height : makes (orders 4 (filled_with 0x01 0x02 0x03 ++ (cached_image 0 ++ (cached_brush 2 ++ (
    -- PatBlt: width +1, style 85, hatch 2
    0x19 ∷ 0x01 ∷ 0x04 ∷ 0x06 ∷
    0x01 ∷ 0x85 ∷ 0x02 ∷ [])))) ++ mark) ≡ refused 33 Broken
brush_of_no_height = refl

pub brush_of_a_negative_width : makes (orders 4 (filled_with 0x01 0x02 0x03 ++ (cached_image 0 ++ (cached_brush 2 ++ (
    -- PatBlt: width -1, height +1, style 85, hatch 2
    0x19 ∷ 0x01 ∷ 0x0C ∷ 0x06 ∷
    0xFF ∷ 0x01 ∷ 0x85 ∷ 0x02 ∷ [])))) ++ mark) ≡ refused 33 Broken
brush_of_a_negative_width = refl

pub brush_of_a_negative_height : makes (orders 4 (filled_with 0x01 0x02 0x03 ++ (cached_image 0 ++ (cached_brush 2 ++ (
    -- PatBlt: width +1, height -1, style 85, hatch 2
    0x19 ∷ 0x01 ∷ 0x0C ∷ 0x06 ∷
    0x01 ∷ 0xFF ∷ 0x85 ∷ 0x02 ∷ [])))) ++ mark) ≡ refused 33 Broken
brush_of_a_negative_height = refl

-- wrong: a width or a height below 1 is accepted of ScrBlt
pub copy_of_no_width : makes (orders 4 (filled_with 0x01 0x02 0x03 ++ (cached_image 0 ++ (cached_brush 2 ++ (
    -- ScrBlt: height +1
    0x19 ∷ 0x02 ∷ 0x08 ∷ 0x01 ∷ [])))) ++ mark) ≡ refused 33 Broken
copy_of_no_width = refl

pub copy_of_no_height : makes (orders 4 (filled_with 0x01 0x02 0x03 ++ (cached_image 0 ++ (cached_brush 2 ++ (
    -- ScrBlt: width +1
    0x19 ∷ 0x02 ∷ 0x04 ∷ 0x01 ∷ [])))) ++ mark) ≡ refused 33 Broken
copy_of_no_height = refl

pub copy_of_a_negative_width : makes (orders 4 (filled_with 0x01 0x02 0x03 ++ (cached_image 0 ++ (cached_brush 2 ++ (
    -- ScrBlt: width -1, height +1
    0x19 ∷ 0x02 ∷ 0x0C ∷
    0xFF ∷ 0x01 ∷ [])))) ++ mark) ≡ refused 33 Broken
copy_of_a_negative_width = refl

pub copy_of_a_negative_height : makes (orders 4 (filled_with 0x01 0x02 0x03 ++ (cached_image 0 ++ (cached_brush 2 ++ (
    -- ScrBlt: width +1, height -1
    0x19 ∷ 0x02 ∷ 0x0C ∷
    0x01 ∷ 0xFF ∷ [])))) ++ mark) ≡ refused 33 Broken
copy_of_a_negative_height = refl

-- wrong: a width or a height below 1 is accepted of OpaqueRect
pub fill_of_no_width : makes (orders 4 (filled_with 0x01 0x02 0x03 ++ (cached_image 0 ++ (cached_brush 2 ++ (
    -- OpaqueRect: width -8, height -3, red 00, green 00, blue 00
    0x11 ∷ 0x7C ∷
    0xF8 ∷ 0xFD ∷ 0x00 ∷ 0x00 ∷ 0x00 ∷ [])))) ++ mark) ≡ refused 33 Broken
fill_of_no_width = refl

pub fill_of_no_height : makes (orders 4 (filled_with 0x01 0x02 0x03 ++ (cached_image 0 ++ (cached_brush 2 ++ (
    -- OpaqueRect: width -7, height -4, red 00, green 00, blue 00
    0x11 ∷ 0x7C ∷
    0xF9 ∷ 0xFC ∷ 0x00 ∷ 0x00 ∷ 0x00 ∷ [])))) ++ mark) ≡ refused 33 Broken
fill_of_no_height = refl

-- wrong: a negative side counts without its sign
pub fill_of_a_negative_width : makes (orders 4 (filled_with 0x01 0x02 0x03 ++ (cached_image 0 ++ (cached_brush 2 ++ (
    -- OpaqueRect: width -9, height -3, red 00, green 00, blue 00
    0x11 ∷ 0x7C ∷
    0xF7 ∷ 0xFD ∷ 0x00 ∷ 0x00 ∷ 0x00 ∷ [])))) ++ mark) ≡ refused 33 Broken
fill_of_a_negative_width = refl

pub fill_of_a_negative_height : makes (orders 4 (filled_with 0x01 0x02 0x03 ++ (cached_image 0 ++ (cached_brush 2 ++ (
    -- OpaqueRect: width -7, height -5, red 00, green 00, blue 00
    0x11 ∷ 0x7C ∷
    0xF9 ∷ 0xFB ∷ 0x00 ∷ 0x00 ∷ 0x00 ∷ [])))) ++ mark) ≡ refused 33 Broken
fill_of_a_negative_height = refl

-- wrong: a width or a height below 1 is accepted of MemBlt
pub image_of_no_width : makes (orders 4 (filled_with 0x01 0x02 0x03 ++ (cached_image 0 ++ (cached_brush 2 ++ (
    -- MemBlt: height +1
    0x59 ∷ 0x0D ∷ 0x10 ∷ 0x01 ∷ [])))) ++ mark) ≡ refused 33 Broken
image_of_no_width = refl

pub image_of_no_height : makes (orders 4 (filled_with 0x01 0x02 0x03 ++ (cached_image 0 ++ (cached_brush 2 ++ (
    -- MemBlt: width +1
    0x59 ∷ 0x0D ∷ 0x08 ∷ 0x01 ∷ [])))) ++ mark) ≡ refused 33 Broken
image_of_no_height = refl

pub image_of_a_negative_width : makes (orders 4 (filled_with 0x01 0x02 0x03 ++ (cached_image 0 ++ (cached_brush 2 ++ (
    -- MemBlt: width -1, height +1
    0x59 ∷ 0x0D ∷ 0x18 ∷
    0xFF ∷ 0x01 ∷ [])))) ++ mark) ≡ refused 33 Broken
image_of_a_negative_width = refl

pub image_of_a_negative_height : makes (orders 4 (filled_with 0x01 0x02 0x03 ++ (cached_image 0 ++ (cached_brush 2 ++ (
    -- MemBlt: width +1, height -1
    0x59 ∷ 0x0D ∷ 0x18 ∷
    0x01 ∷ 0xFF ∷ [])))) ++ mark) ≡ refused 33 Broken
image_of_a_negative_height = refl

-- wrong: a width or a height below 1 is accepted of Mem3Blt
pub image_and_brush_of_no_width : makes (orders 4 (filled_with 0x01 0x02 0x03 ++ (cached_image 0 ++ (cached_brush 2 ++ (
    -- Mem3Blt: left +1, height +1, rop B8, style 85, hatch 2
    0x59 ∷ 0x0E ∷ 0x32 ∷ 0x30 ∷
    0x01 ∷ 0x01 ∷ 0xB8 ∷ 0x85 ∷ 0x02 ∷ [])))) ++ mark) ≡ refused 33 Broken
image_and_brush_of_no_width = refl

pub image_and_brush_of_no_height : makes (orders 4 (filled_with 0x01 0x02 0x03 ++ (cached_image 0 ++ (cached_brush 2 ++ (
    -- Mem3Blt: left +1, width +1, rop B8, style 85, hatch 2
    0x59 ∷ 0x0E ∷ 0x2A ∷ 0x30 ∷
    0x01 ∷ 0x01 ∷ 0xB8 ∷ 0x85 ∷ 0x02 ∷ [])))) ++ mark) ≡ refused 33 Broken
image_and_brush_of_no_height = refl

pub image_and_brush_of_a_negative_width : makes (orders 4 (filled_with 0x01 0x02 0x03 ++ (cached_image 0 ++ (cached_brush 2 ++ (
    -- Mem3Blt: left +1, width -1, height +1, rop B8, style 85, hatch 2
    0x59 ∷ 0x0E ∷ 0x3A ∷ 0x30 ∷
    0x01 ∷ 0xFF ∷ 0x01 ∷ 0xB8 ∷ 0x85 ∷ 0x02 ∷ [])))) ++ mark) ≡ refused 33 Broken
image_and_brush_of_a_negative_width = refl

pub image_and_brush_of_a_negative_height : makes (orders 4 (filled_with 0x01 0x02 0x03 ++ (cached_image 0 ++ (cached_brush 2 ++ (
    -- Mem3Blt: left +1, width +1, height -1, rop B8, style 85, hatch 2
    0x59 ∷ 0x0E ∷ 0x3A ∷ 0x30 ∷
    0x01 ∷ 0x01 ∷ 0xFF ∷ 0xB8 ∷ 0x85 ∷ 0x02 ∷ [])))) ++ mark) ≡ refused 33 Broken
image_and_brush_of_a_negative_height = refl
