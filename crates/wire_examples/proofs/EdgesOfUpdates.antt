-- What a viewer makes of Bitmap updates and of marks, and of updates that are empty or refused. A coordinate with a sign is added to the last one.
use Rattle.std.proofs.Common.{◌≡◌, [], ◌∷◌, ◌++◌, refl, Some, None, replicate, true}
use Rattle.rop3_core.specs.Rop3.{ternary_raster}
use Rattle.order_means.specs.ClientState.Fault.{Broken}
use Rattle.wire_examples.proofs.Streams.{viewer, packet, orders, mark, filled_with, small_image, makes, made_by, picture, pictures, refused}

-- 0401: a colour run of four pixels
-- wrong: right and bottom of a rectangle are exclusive
-- wrong: a rectangle counts as an order
pub rectangle_of_both_flags : makes (packet (
    -- a rectangle: left 0, top 0, right 3, bottom 0, width 4, height 1, bits 24, flags 0401, length, bytes
    0x01 ∷ 0x00 ∷ 0x01 ∷ 0x00 ∷ 0x00 ∷ 0x00 ∷ 0x00 ∷ 0x00 ∷ 0x03 ∷ 0x00 ∷ 0x00 ∷ 0x00 ∷ 0x04 ∷ 0x00 ∷ 0x01 ∷ 0x00 ∷ 0x18 ∷ 0x00 ∷
    0x01 ∷ 0x04 ∷ 0x04 ∷ 0x00 ∷ 0x64 ∷ 0x01 ∷ 0x02 ∷ 0x03 ∷ []) ++ mark) ≡ picture 0 1 (
    Some 0x030201 ∷ Some 0x030201 ∷ Some 0x030201 ∷ Some 0x030201 ∷ None ∷ None ∷ None ∷ None ∷
    None ∷ None ∷ None ∷ None ∷ None ∷ None ∷ None ∷ None ∷
    None ∷ None ∷ None ∷ None ∷ None ∷ None ∷ None ∷ None ∷
    None ∷ None ∷ None ∷ None ∷ None ∷ None ∷ None ∷ None ∷ [])
rectangle_of_both_flags = refl

-- the same bytes, refused for flags 0001
-- wrong: a rectangle with flags 0001 is packed
pub rectangle_of_the_first_flag : makes (packet (
    -- a rectangle: left 0, top 0, right 3, bottom 0, width 4, height 1, bits 24, flags 0001, length, bytes
    0x01 ∷ 0x00 ∷ 0x01 ∷ 0x00 ∷ 0x00 ∷ 0x00 ∷ 0x00 ∷ 0x00 ∷ 0x03 ∷ 0x00 ∷ 0x00 ∷ 0x00 ∷ 0x04 ∷ 0x00 ∷ 0x01 ∷ 0x00 ∷ 0x18 ∷ 0x00 ∷
    0x01 ∷ 0x00 ∷ 0x04 ∷ 0x00 ∷ 0x64 ∷ 0x01 ∷ 0x02 ∷ 0x03 ∷ []) ++ mark) ≡ refused 32 Broken
rectangle_of_the_first_flag = refl

-- the same bytes, refused for flags 0400
-- wrong: a rectangle with flags 0400 is packed
pub rectangle_of_the_second_flag : makes (packet (
    -- a rectangle: left 0, top 0, right 3, bottom 0, width 4, height 1, bits 24, flags 0400, length, bytes
    0x01 ∷ 0x00 ∷ 0x01 ∷ 0x00 ∷ 0x00 ∷ 0x00 ∷ 0x00 ∷ 0x00 ∷ 0x03 ∷ 0x00 ∷ 0x00 ∷ 0x00 ∷ 0x04 ∷ 0x00 ∷ 0x01 ∷ 0x00 ∷ 0x18 ∷ 0x00 ∷
    0x00 ∷ 0x04 ∷ 0x04 ∷ 0x00 ∷ 0x64 ∷ 0x01 ∷ 0x02 ∷ 0x03 ∷ []) ++ mark) ≡ refused 32 Broken
rectangle_of_the_second_flag = refl

-- the same bytes, refused for flags 0402
-- wrong: a rectangle with any other flags is packed
pub rectangle_of_another_flag : makes (packet (
    -- a rectangle: left 0, top 0, right 3, bottom 0, width 4, height 1, bits 24, flags 0402, length, bytes
    0x01 ∷ 0x00 ∷ 0x01 ∷ 0x00 ∷ 0x00 ∷ 0x00 ∷ 0x00 ∷ 0x00 ∷ 0x03 ∷ 0x00 ∷ 0x00 ∷ 0x00 ∷ 0x04 ∷ 0x00 ∷ 0x01 ∷ 0x00 ∷ 0x18 ∷ 0x00 ∷
    0x02 ∷ 0x04 ∷ 0x04 ∷ 0x00 ∷ 0x64 ∷ 0x01 ∷ 0x02 ∷ 0x03 ∷ []) ++ mark) ≡ refused 32 Broken
rectangle_of_another_flag = refl

-- its right edge is left of its left one
-- wrong: a rectangle without a column is accepted
pub rectangle_that_ends_before_it_begins : makes (packet (
    -- a rectangle: left 3, top 0, right 2, bottom 0, width 4, height 1, bits 24, flags 0000, length, bytes
    0x01 ∷ 0x00 ∷ 0x01 ∷ 0x00 ∷ 0x03 ∷ 0x00 ∷ 0x00 ∷ 0x00 ∷ 0x02 ∷ 0x00 ∷ 0x00 ∷ 0x00 ∷ 0x04 ∷ 0x00 ∷ 0x01 ∷ 0x00 ∷ 0x18 ∷ 0x00 ∷
    0x00 ∷ 0x00 ∷ 0x0C ∷ 0x00 ∷ 0x00 ∷ 0x00 ∷ 0x00 ∷ 0x00 ∷ 0x00 ∷ 0x00 ∷ 0x00 ∷ 0x00 ∷ 0x00 ∷ 0x00 ∷ 0x00 ∷ 0x00 ∷ [])) ≡ refused 32 Broken
rectangle_that_ends_before_it_begins = refl

pub update_without_an_order : makes (orders 0 [] ++ mark) ≡ picture 0 0 (replicate 32 None)
update_without_an_order = refl

-- a viewer with frame markers has two marks in one update, and the Synchronize update behind it is none
-- wrong: a Synchronize update is a mark for every viewer
-- wrong: the marker that begins a frame is a mark
pub marks_within_an_update : made_by (viewer true true) (orders 5 (
    -- OpaqueRect: width +4, height +4, red 01, green 02, blue 03
    0x19 ∷ 0x0A ∷ 0x7C ∷
    0x04 ∷ 0x04 ∷ 0x01 ∷ 0x02 ∷ 0x03 ∷
    -- frame marker: action 1
    0x36 ∷ 0x01 ∷ 0x00 ∷ 0x00 ∷ 0x00 ∷
    -- OpaqueRect: width +4, red 05, green 05, blue 05
    0x11 ∷ 0x74 ∷
    0x04 ∷ 0x05 ∷ 0x05 ∷ 0x05 ∷
    -- frame marker: action 0
    0x36 ∷ 0x00 ∷ 0x00 ∷ 0x00 ∷ 0x00 ∷
    -- frame marker: action 1
    0x36 ∷ 0x01 ∷ 0x00 ∷ 0x00 ∷ 0x00 ∷ []) ++ mark) ≡ pictures (
    (Some 0x010203 ∷ Some 0x010203 ∷ Some 0x010203 ∷ Some 0x010203 ∷ None ∷ None ∷ None ∷ None ∷
    Some 0x010203 ∷ Some 0x010203 ∷ Some 0x010203 ∷ Some 0x010203 ∷ None ∷ None ∷ None ∷ None ∷
    Some 0x010203 ∷ Some 0x010203 ∷ Some 0x010203 ∷ Some 0x010203 ∷ None ∷ None ∷ None ∷ None ∷
    Some 0x010203 ∷ Some 0x010203 ∷ Some 0x010203 ∷ Some 0x010203 ∷ None ∷ None ∷ None ∷ None ∷ []) ∷
    (replicate 32 (Some 0x050505)) ∷ []) 2 0
marks_within_an_update = refl

-- the place is that of the order's control byte, in the third packet
-- wrong: a field that is refused stands at the first byte of its update
-- wrong: registers begin anew with each update
pub refused_order_of_a_later_update : makes (orders 1 (filled_with 0x01 0x02 0x03) ++ (mark ++ orders 2 (
    -- OpaqueRect: red 04, green 04, blue 04
    0x01 ∷ 0x70 ∷
    0x04 ∷ 0x04 ∷ 0x04 ∷
    -- no order: control byte 04
    0x04 ∷ []))) ≡ refused 129 Broken
refused_order_of_a_later_update = refl

-- type 0100 is refused at its first byte
-- wrong: an update's type has one byte
pub second_byte_of_an_update_type : makes (packet (
    0x00 ∷ 0x01 ∷ 0x00 ∷ 0x00 ∷ 0x00 ∷ 0x00 ∷ 0x00 ∷ 0x00 ∷ [])) ≡ refused 32 Broken
second_byte_of_an_update_type = refl

-- the compressed type is refused at its byte
pub update_that_is_compressed : makes (
    -- TPKT and MCS headers, count
    0x03 ∷ 0x00 ∷ 0x00 ∷ 0x30 ∷ 0x02 ∷ 0xF0 ∷ 0x80 ∷ 0x68 ∷ 0x00 ∷ 0x01 ∷ 0x03 ∷ 0xEB ∷ 0x70 ∷ 0x22 ∷
    -- total, type, source, shareId, pad, stream, length, Update, compressed type 1, compressed length
    0x22 ∷ 0x00 ∷ 0x17 ∷ 0x00 ∷ 0xEA ∷ 0x03 ∷ 0xEA ∷ 0x03 ∷ 0x01 ∷ 0x00 ∷ 0x00 ∷ 0x01 ∷ 0x14 ∷ 0x00 ∷ 0x02 ∷ 0x01 ∷ 0x00 ∷ 0x00 ∷
    -- an update of one order: OpaqueRect
    0x00 ∷ 0x00 ∷ 0x00 ∷ 0x00 ∷ 0x01 ∷ 0x00 ∷ 0x00 ∷ 0x00 ∷ 0x19 ∷ 0x0A ∷ 0x7C ∷ 0x08 ∷ 0x04 ∷ 0x01 ∷ 0x02 ∷ 0x03 ∷ []) ≡ refused 29 Broken
update_that_is_compressed = refl

-- its last column and row are those of the surface
-- wrong: a rectangle up to the last column or row of the surface is refused
pub rectangle_in_the_last_corner : makes (packet (
    -- a rectangle: left 4, top 3, right 7, bottom 3, width 4, height 1, bits 24, flags 0000, length 12, bytes
    0x01 ∷ 0x00 ∷ 0x01 ∷ 0x00 ∷ 0x04 ∷ 0x00 ∷ 0x03 ∷ 0x00 ∷ 0x07 ∷ 0x00 ∷ 0x03 ∷ 0x00 ∷ 0x04 ∷ 0x00 ∷ 0x01 ∷ 0x00 ∷ 0x18 ∷ 0x00 ∷
    0x00 ∷ 0x00 ∷ 0x0C ∷ 0x00 ∷ replicate 12 0x2A) ++ mark) ≡ picture 0 1 (
    None ∷ None ∷ None ∷ None ∷ None ∷ None ∷ None ∷ None ∷
    None ∷ None ∷ None ∷ None ∷ None ∷ None ∷ None ∷ None ∷
    None ∷ None ∷ None ∷ None ∷ None ∷ None ∷ None ∷ None ∷
    None ∷ None ∷ None ∷ None ∷ Some 0x2A2A2A ∷ Some 0x2A2A2A ∷ Some 0x2A2A2A ∷ Some 0x2A2A2A ∷ [])
rectangle_in_the_last_corner = refl

-- an image and a block of one pixel before the mark, and their uses behind it
-- wrong: caches are emptied with each mark
-- wrong: registers begin anew after a mark
-- wrong: saved blocks are dropped with each mark
pub caches_blocks_and_registers_outlive_a_mark : makes (orders 3 (filled_with 0x01 0x02 0x03 ++ (small_image ++ (
    -- SaveBitmap of one pixel
    0x09 ∷ 0x0B ∷ 0x00 ∷ []))) ++ (mark ++ (orders 3 (
    -- OpaqueRect: red 09, green 09, blue 09
    0x09 ∷ 0x0A ∷ 0x70 ∷
    0x09 ∷ 0x09 ∷ 0x09 ∷
    -- MemBlt: top +1, width +4, height +2, rop CC
    0x59 ∷ 0x0D ∷ 0x3C ∷
    0x01 ∷ 0x04 ∷ 0x02 ∷ 0xCC ∷
    -- SaveBitmap: operation 1
    0x09 ∷ 0x0B ∷ 0x20 ∷ 0x01 ∷ []) ++ mark))) ≡ pictures (replicate 32 (Some 0x010203) ∷ (
    Some 0x010203 ∷ Some 0x090909 ∷ Some 0x090909 ∷ Some 0x090909 ∷ Some 0x090909 ∷ Some 0x090909 ∷ Some 0x090909 ∷ Some 0x090909 ∷
    Some 0x0E0D0C ∷ Some 0x11100F ∷ Some 0x141312 ∷ Some 0x171615 ∷ Some 0x090909 ∷ Some 0x090909 ∷ Some 0x090909 ∷ Some 0x090909 ∷
    Some 0x020100 ∷ Some 0x050403 ∷ Some 0x080706 ∷ Some 0x0B0A09 ∷ Some 0x090909 ∷ Some 0x090909 ∷ Some 0x090909 ∷ Some 0x090909 ∷
    Some 0x090909 ∷ Some 0x090909 ∷ Some 0x090909 ∷ Some 0x090909 ∷ Some 0x090909 ∷ Some 0x090909 ∷ Some 0x090909 ∷ Some 0x090909 ∷ []) ∷ []) 5 0
unfolding ternary_raster
caches_blocks_and_registers_outlive_a_mark = refl

-- 12 bytes, as many as raw pixels have, refused for flags 0001
-- wrong: a rectangle with flags 0001 is raw
pub raw_rectangle_of_the_first_flag : makes (packet (
    -- a rectangle: left 0, top 0, right 3, bottom 0, width 4, height 1, bits 24, flags 0001, length 12, bytes
    0x01 ∷ 0x00 ∷ 0x01 ∷ 0x00 ∷ 0x00 ∷ 0x00 ∷ 0x00 ∷ 0x00 ∷ 0x03 ∷ 0x00 ∷ 0x00 ∷ 0x00 ∷ 0x04 ∷ 0x00 ∷ 0x01 ∷ 0x00 ∷ 0x18 ∷ 0x00 ∷
    0x01 ∷ 0x00 ∷ 0x0C ∷ 0x00 ∷ replicate 12 0x00) ++ mark) ≡ refused 32 Broken
raw_rectangle_of_the_first_flag = refl

-- 12 bytes, as many as raw pixels have, refused for flags 0400
-- wrong: a rectangle with flags 0400 is raw
pub raw_rectangle_of_the_second_flag : makes (packet (
    -- a rectangle: left 0, top 0, right 3, bottom 0, width 4, height 1, bits 24, flags 0400, length 12, bytes
    0x01 ∷ 0x00 ∷ 0x01 ∷ 0x00 ∷ 0x00 ∷ 0x00 ∷ 0x00 ∷ 0x00 ∷ 0x03 ∷ 0x00 ∷ 0x00 ∷ 0x00 ∷ 0x04 ∷ 0x00 ∷ 0x01 ∷ 0x00 ∷ 0x18 ∷ 0x00 ∷
    0x00 ∷ 0x04 ∷ 0x0C ∷ 0x00 ∷ replicate 12 0x00) ++ mark) ≡ refused 32 Broken
raw_rectangle_of_the_second_flag = refl
