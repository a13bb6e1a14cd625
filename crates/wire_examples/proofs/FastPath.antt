-- Updates in packets of the fast path ([MS-RDPBCGR] 2.2.9.1.2): what is written, and what a viewer makes of them.
use Rattle.std.proofs.Common.{◌≡◌, ℕ, List, [], ◌∷◌, ◌++◌, refl, Some, None, replicate, pos, true, false}
use Rattle.std.specs.Prelude.{◌+◌, Bool, length, Option, Result, Ok}
use Rattle.px_core.specs.declared.depth.Depth.TheVariants.{Bits24, Bits16}
use Rattle.px_core.specs.declared.rectangle.Rect.{Rect}
use Rattle.px_core.specs.Rectangle.{boxed}
use Rattle.px_core.specs.Depth.{cut_color}
use Rattle.fast_path.specs.Written.{fast_headers}
use Rattle.caps_sets.specs.declared.confirmed.Confirmed.{Confirmed}
use Rattle.order_means.specs.ClientState.Fault.{Broken, Empty}
use Rattle.order_means.specs.Updates.{updates, updates_in, body_at, cutting}
use Rattle.order_means.specs.Updates.BodyForm.{Slow, FastOrders, FastBitmap, FastSynchronize}
use Rattle.order_means.specs.Updates.Stage.{Between, Refused}
use Rattle.wire_num.specs.Field.{bind}
use Rattle.order_means.specs.FrameMarks.{Refusal, View, first_view, view_after_bodies, unread}
use Rattle.order_means.specs.CacheOrders.{frame_marker_bytes}
use Rattle.order_means.specs.UpdateBodies.{orders_packet, synchronize_packet, tile_packet}
use Rattle.wire_examples.proofs.Viewer.{size_of}
use Rattle.wire_examples.proofs.Streams.{Made, viewer, orders, mark, filled_with, makes, made_by, picture, pictures, refused}

-- ---- what is written

-- OpaqueRect: width +64, height +48
abbrev black_fill : List ℕ
black_fill = 0x19 ∷ 0x0A ∷ 0x0C ∷ 0x40 ∷ 0x30 ∷ []

-- a first frame: its update and its mark
-- wrong: a Synchronize goes with its four bytes
-- wrong: orders go with the whole update body
-- wrong: the length has always two bytes
-- wrong: a length counts the data alone
-- wrong: a size goes with its highest byte first
-- wrong: a size counts the code and itself
-- wrong: the size goes before the code
-- wrong: the first byte has the number of updates
pub first_frame_by_the_fast_path : orders_packet true 1 black_fill ++ synchronize_packet true ≡
    -- length 12, orders, size 7, one order
    0x00 ∷ 0x0C ∷ 0x00 ∷ 0x07 ∷ 0x00 ∷ 0x01 ∷ 0x00 ∷ 0x19 ∷ 0x0A ∷ 0x0C ∷ 0x40 ∷ 0x30 ∷
    -- length 5, synchronize, size 0
    0x00 ∷ 0x05 ∷ 0x03 ∷ 0x00 ∷ 0x00 ∷ []
unfolding fast_headers
first_frame_by_the_fast_path = refl

-- the same between frame markers, of which the second has an update of its own
pub frame_markers_by_the_fast_path : orders_packet true 2 (frame_marker_bytes false ++ black_fill) ++ orders_packet true 1 (frame_marker_bytes true) ≡
    0x00 ∷ 0x11 ∷ 0x00 ∷ 0x0C ∷ 0x00 ∷ 0x02 ∷ 0x00 ∷ 0x36 ∷ 0x00 ∷ 0x00 ∷ 0x00 ∷ 0x00 ∷ 0x19 ∷ 0x0A ∷ 0x0C ∷ 0x40 ∷ 0x30 ∷
    0x00 ∷ 0x0C ∷ 0x00 ∷ 0x07 ∷ 0x00 ∷ 0x01 ∷ 0x00 ∷ 0x36 ∷ 0x01 ∷ 0x00 ∷ 0x00 ∷ 0x00 ∷ []
unfolding fast_headers
frame_markers_by_the_fast_path = refl

abbrev rect : ℕ → ℕ → Rect
rect w h = boxed (pos 0) (pos 0) w h

-- a red tile: length 35, bitmap, size 30, the whole update body
-- wrong: a bitmap goes without its type
-- wrong: a tile goes by the code of orders
pub packed_tile_by_the_fast_path : tile_packet Bits24 true true (rect 64 64) (replicate 4096 0xFF0000) ≡
    0x00 ∷ 0x23 ∷ 0x01 ∷ 0x1E ∷ 0x00 ∷ 0x01 ∷ 0x00 ∷ 0x01 ∷ 0x00 ∷ 0x00 ∷ 0x00 ∷ 0x00 ∷ 0x00 ∷ 0x3F ∷ 0x00 ∷ 0x3F ∷ 0x00 ∷ 0x40 ∷ 0x00 ∷ 0x40 ∷ 0x00 ∷ 0x18 ∷ 0x00 ∷ 0x01 ∷ 0x04 ∷ 0x08 ∷ 0x00 ∷
    0x60 ∷ 0x20 ∷ 0x00 ∷ 0x00 ∷ 0xFF ∷ 0xF0 ∷ 0xC0 ∷ 0x0F ∷ []
unfolding fast_headers
packed_tile_by_the_fast_path = refl

pub packed_tile_at_16_bits_by_the_fast_path : tile_packet Bits16 true true (rect 64 64) (replicate 4096 0xFF0000) ≡
    0x00 ∷ 0x22 ∷ 0x01 ∷ 0x1D ∷ 0x00 ∷ 0x01 ∷ 0x00 ∷ 0x01 ∷ 0x00 ∷ 0x00 ∷ 0x00 ∷ 0x00 ∷ 0x00 ∷ 0x3F ∷ 0x00 ∷ 0x3F ∷ 0x00 ∷ 0x40 ∷ 0x00 ∷ 0x40 ∷ 0x00 ∷ 0x10 ∷ 0x00 ∷ 0x01 ∷ 0x04 ∷ 0x07 ∷ 0x00 ∷
    0x60 ∷ 0x20 ∷ 0x00 ∷ 0xF8 ∷ 0xF0 ∷ 0xC0 ∷ 0x0F ∷ []
unfolding fast_headers cut_color
packed_tile_at_16_bits_by_the_fast_path = refl

-- 192 bytes of pixels: length 220 in two bytes, size 214
pub raw_tile_by_the_fast_path : tile_packet Bits24 true false (rect 8 8) (replicate 64 0x2A2A2A) ≡
    0x00 ∷ 0x80 ∷ 0xDC ∷ 0x01 ∷ 0xD6 ∷ 0x00 ∷ 0x01 ∷ 0x00 ∷ 0x01 ∷ 0x00 ∷ 0x00 ∷ 0x00 ∷ 0x00 ∷ 0x00 ∷ 0x07 ∷ 0x00 ∷ 0x07 ∷ 0x00 ∷ 0x08 ∷ 0x00 ∷ 0x08 ∷ 0x00 ∷ 0x18 ∷ 0x00 ∷ 0x00 ∷ 0x00 ∷ 0xC0 ∷ 0x00 ∷
    replicate 192 0x2A
unfolding fast_headers
raw_tile_by_the_fast_path = refl

-- 127 is the greatest length in one byte
-- wrong: 127 goes in two bytes
pub packet_of_127_bytes : orders_packet true 113 (replicate 120 0x2A) ≡ 0x00 ∷ 0x7F ∷ 0x00 ∷ 0x7A ∷ 0x00 ∷ 0x71 ∷ 0x00 ∷ replicate 120 0x2A
unfolding fast_headers
packet_of_127_bytes = refl

-- a byte of orders more, and the length's second byte: no packet has 128
-- wrong: 128 goes in one byte
-- wrong: a length doesn't count its second byte
-- wrong: a length goes without its top bit
-- wrong: a length goes with its lowest byte first
pub packet_of_129_bytes : orders_packet true 114 (replicate 121 0x2A) ≡ 0x00 ∷ 0x80 ∷ 0x81 ∷ 0x00 ∷ 0x7B ∷ 0x00 ∷ 0x72 ∷ 0x00 ∷ replicate 121 0x2A
unfolding fast_headers
packet_of_129_bytes = refl

-- before 16,377 bytes of data: 16,383 in all
pub head_of_the_longest_packet : fast_headers 0 16377 ≡ 0x00 ∷ 0xBF ∷ 0xFF ∷ 0x00 ∷ 0xF9 ∷ 0x3F ∷ []
unfolding fast_headers
head_of_the_longest_packet = refl

-- ---- packets that a host may send

-- a packet of fewer than 128 bytes: its length, and its updates
abbrev fast : List ℕ → List ℕ
fast bytes = 0x00 ∷ (2 + length bytes) ∷ bytes

-- an update of fewer than 256 bytes of data: its code, the size of the data, the data
abbrev update : ℕ → List ℕ → List ℕ
update code bytes = code ∷ length bytes ∷ 0x00 ∷ bytes

-- an update of so many orders
abbrev ordered : ℕ → List ℕ → List ℕ
ordered n bytes = update 0 (n ∷ 0x00 ∷ bytes)

abbrev synchronized : List ℕ
synchronized = update 3 []

-- 8 by 4 pixels of one colour
abbrev filled : List ℕ
filled = filled_with 0x01 0x02 0x03

-- the last OpaqueRect once more, its three colours the same
abbrev refilled : ℕ → List ℕ
refilled color = 0x01 ∷ 0x70 ∷ color ∷ color ∷ color ∷ []

abbrev end_marker : List ℕ
end_marker = 0x36 ∷ 0x01 ∷ 0x00 ∷ 0x00 ∷ 0x00 ∷ []

-- the packet of a fill, and that of a mark, in bytes
pub bytes_of_two_packets : fast (ordered 1 filled) ++ fast synchronized ≡
    0x00 ∷ 0x0F ∷ 0x00 ∷ 0x0A ∷ 0x00 ∷ 0x01 ∷ 0x00 ∷ 0x19 ∷ 0x0A ∷ 0x7C ∷ 0x08 ∷ 0x04 ∷ 0x01 ∷ 0x02 ∷ 0x03 ∷
    0x00 ∷ 0x05 ∷ 0x03 ∷ 0x00 ∷ 0x00 ∷ []
bytes_of_two_packets = refl

-- ---- what a viewer makes of them

-- whether it confirmed frame markers
abbrev fast_viewer : Bool → Confirmed
fast_viewer markers = record (viewer markers true) { fast = true }

abbrev makes_fast : List ℕ → Result Made Refusal
makes_fast bytes = made_by (fast_viewer false) bytes

-- wrong: the length counts what stands behind it
-- wrong: a size counts the code and itself
-- wrong: a size has its highest byte first
-- wrong: orders have pads before their count and behind it
-- wrong: orders have the whole update body
-- wrong: the count of orders has one byte
pub fill_by_the_fast_path : makes_fast (fast (ordered 1 filled) ++ fast synchronized) ≡ picture 1 0 (replicate 32 (Some 0x010203))
fill_by_the_fast_path = refl

-- packets of both kinds, in any order
-- wrong: a viewer of the fast path takes no other packet
pub fill_by_the_slow_path : makes_fast (orders 1 filled ++ fast synchronized) ≡ picture 1 0 (replicate 32 (Some 0x010203))
fill_by_the_slow_path = refl

pub mark_by_the_slow_path : makes_fast (fast (ordered 1 filled) ++ mark) ≡ picture 1 0 (replicate 32 (Some 0x010203))
mark_by_the_slow_path = refl

-- the last order is said once more by its control byte alone, 112 times
pub fills_in_127_bytes : makes_fast ((0x00 ∷ 0x7F ∷ 0x00 ∷ 0x7A ∷ 0x00 ∷ 0x71 ∷ 0x00 ∷ (filled ++ replicate 112 0x41)) ++ fast synchronized) ≡ picture 113 0 (replicate 32 (Some 0x010203))
fills_in_127_bytes = refl

-- wrong: of two length bytes the lowest stands first
-- wrong: the top bit of a length counts
pub fills_in_129_bytes : makes_fast ((0x00 ∷ 0x80 ∷ 0x81 ∷ 0x00 ∷ 0x7B ∷ 0x00 ∷ 0x72 ∷ 0x00 ∷ (filled ++ replicate 113 0x41)) ++ fast synchronized) ≡ picture 114 0 (replicate 32 (Some 0x010203))
fills_in_129_bytes = refl

-- 127 bytes would do, but a length in two bytes is read too
-- wrong: 128 is a length of one byte
pub fills_in_128_bytes : makes_fast ((0x00 ∷ 0x80 ∷ 0x80 ∷ 0x00 ∷ 0x7A ∷ 0x00 ∷ 0x71 ∷ 0x00 ∷ (filled ++ replicate 112 0x41)) ++ fast synchronized) ≡ picture 113 0 (replicate 32 (Some 0x010203))
fills_in_128_bytes = refl

-- wrong: a length below 128 in two bytes is refused
pub mark_of_the_longer_length : makes_fast (0x00 ∷ 0x80 ∷ 0x06 ∷ 0x03 ∷ 0x00 ∷ 0x00 ∷ []) ≡ picture 0 0 (replicate 32 None)
mark_of_the_longer_length = refl

-- ---- updates of one packet

-- wrong: the first update of a packet alone is read
-- wrong: a second update is too many bytes
-- wrong: a Synchronize has its four bytes
pub fill_and_mark_in_one_packet : makes_fast (fast (ordered 1 filled ++ synchronized)) ≡ picture 1 0 (replicate 32 (Some 0x010203))
fill_and_mark_in_one_packet = refl

-- the picture at a mark is that of before the packet's second update
-- wrong: the updates of a packet are obeyed the last first
pub mark_in_the_first_of_two : makes_fast (fast (ordered 1 filled) ++ (fast (synchronized ++ ordered 1 (refilled 0x05)) ++ fast synchronized))
    ≡ pictures (replicate 32 (Some 0x010203) ∷ replicate 32 (Some 0x050505) ∷ []) 2 0
mark_in_the_first_of_two = refl

pub frame_markers_in_both_of_two : made_by (fast_viewer true) (fast (ordered 2 (filled ++ end_marker) ++ ordered 2 (refilled 0x05 ++ end_marker)))
    ≡ pictures (replicate 32 (Some 0x010203) ∷ replicate 32 (Some 0x050505) ∷ []) 2 0
frame_markers_in_both_of_two = refl

-- a mark by another means than was confirmed does nothing
pub synchronize_beside_frame_markers : made_by (fast_viewer true) (fast synchronized) ≡ pictures [] 0 0
synchronize_beside_frame_markers = refl

-- each has its place; where an update has no data, it is that behind their size
pub places_of_three_updates : updates_in true (fast (update 0 (0x00 ∷ 0x00 ∷ []) ++ (update 1 (0x2A ∷ []) ++ synchronized)))
    ≡ updates (body_at 5 FastOrders (0x00 ∷ 0x00 ∷ []) ∷ body_at 10 FastBitmap (0x2A ∷ []) ∷ body_at 14 FastSynchronize [] ∷ []) (cutting 14 Between)
places_of_three_updates = refl

pub places_in_packets_of_both_kinds : updates_in true (mark ++ fast synchronized)
    ≡ updates (body_at 32 Slow (0x03 ∷ 0x00 ∷ 0x00 ∷ 0x00 ∷ []) ∷ body_at 41 FastSynchronize [] ∷ []) (cutting 41 Between)
places_in_packets_of_both_kinds = refl

-- ---- rectangles

-- left, top 0, right, bottom, width 4, height 1, bits 24, flags 0401, length 4, a colour run of four pixels
abbrev row_of_four : ℕ → ℕ → ℕ → List ℕ
row_of_four left top color =
    left ∷ 0x00 ∷ top ∷ 0x00 ∷ (left + 3) ∷ 0x00 ∷ top ∷ 0x00 ∷ 0x04 ∷ 0x00 ∷ 0x01 ∷ 0x00 ∷ 0x18 ∷ 0x00 ∷
    0x01 ∷ 0x04 ∷ 0x04 ∷ 0x00 ∷ 0x64 ∷ color ∷ color ∷ color ∷ []

-- their data are the whole update body, with its type
-- wrong: a bitmap has no type
pub two_rectangles_by_the_fast_path : makes_fast (fast (update 1 (0x01 ∷ 0x00 ∷ 0x02 ∷ 0x00 ∷ (row_of_four 0 0 0x0A ++ row_of_four 4 3 0x0B))) ++ fast synchronized) ≡ picture 0 2 (
    Some 0x0A0A0A ∷ Some 0x0A0A0A ∷ Some 0x0A0A0A ∷ Some 0x0A0A0A ∷ None ∷ None ∷ None ∷ None ∷
    None ∷ None ∷ None ∷ None ∷ None ∷ None ∷ None ∷ None ∷
    None ∷ None ∷ None ∷ None ∷ None ∷ None ∷ None ∷ None ∷
    None ∷ None ∷ None ∷ None ∷ Some 0x0B0B0B ∷ Some 0x0B0B0B ∷ Some 0x0B0B0B ∷ Some 0x0B0B0B ∷ [])
two_rectangles_by_the_fast_path = refl

-- left, top 0, right, bottom 3, width 4, height 4, bits 24, flags 0000, length 48, raw pixels of one colour
abbrev four_rows_of_four : ℕ → ℕ → List ℕ
four_rows_of_four left color =
    left ∷ 0x00 ∷ 0x00 ∷ 0x00 ∷ (left + 3) ∷ 0x00 ∷ 0x03 ∷ 0x00 ∷ 0x04 ∷ 0x00 ∷ 0x04 ∷ 0x00 ∷ 0x18 ∷ 0x00 ∷
    0x00 ∷ 0x00 ∷ 0x30 ∷ 0x00 ∷ replicate 48 color

abbrev row_of_two_colors : List (Option ℕ)
row_of_two_colors = replicate 4 (Some 0x0A0A0A) ++ replicate 4 (Some 0x0B0B0B)

-- length 142 in two bytes, size 136
pub two_raw_rectangles_by_the_fast_path : makes_fast ((0x00 ∷ 0x80 ∷ 0x8E ∷ 0x01 ∷ 0x88 ∷ 0x00 ∷ 0x01 ∷ 0x00 ∷ 0x02 ∷ 0x00 ∷ (four_rows_of_four 0 0x0A ++ four_rows_of_four 4 0x0B)) ++ fast synchronized)
    ≡ picture 0 2 (row_of_two_colors ++ (row_of_two_colors ++ (row_of_two_colors ++ row_of_two_colors)))
two_raw_rectangles_by_the_fast_path = refl

-- ---- heads that are refused

-- by a viewer that doesn't take them, at once, and behind another packet
-- wrong: a first byte of 0 is taken whatever was confirmed
pub first_byte_0_without_the_fast_path : makes (0x00 ∷ []) ≡ refused 0 Broken
first_byte_0_without_the_fast_path = refl

pub mark_without_the_fast_path : makes (mark ++ fast synchronized) ≡ refused 36 Broken
mark_without_the_fast_path = refl

-- flags, of encryption or others, and another action
-- wrong: flag bits are ignored
pub first_byte_80 : makes_fast (0x80 ∷ []) ≡ refused 0 Broken
first_byte_80 = refl

pub first_byte_40 : makes_fast (0x40 ∷ []) ≡ refused 0 Broken
first_byte_40 = refl

-- wrong: any first byte whose low two bits are 0 is taken
pub first_byte_4 : makes_fast (0x04 ∷ []) ≡ refused 0 Broken
first_byte_4 = refl

-- wrong: the action isn't looked at
pub first_byte_1 : makes_fast (0x01 ∷ []) ≡ refused 0 Broken
first_byte_1 = refl

-- a length below that of the bytes up to its own end, as soon as they are there
-- wrong: a short length is refused at the packet's first byte, or behind it
-- wrong: a short length is refused once the packet is whole
pub length_of_0 : makes_fast (0x00 ∷ 0x00 ∷ []) ≡ refused 1 Broken
length_of_0 = refl

pub length_of_1 : makes_fast (0x00 ∷ 0x01 ∷ []) ≡ refused 1 Broken
length_of_1 = refl

-- wrong: a short length in two bytes is refused at the second one
-- wrong: a length is short below 2, in two bytes too
pub length_of_2_in_two_bytes : makes_fast (0x00 ∷ 0x80 ∷ 0x02 ∷ []) ≡ refused 1 Broken
length_of_2_in_two_bytes = refl

-- no update, where its code should stand
-- wrong: a length of its own bytes alone is short
-- wrong: a packet may have no update
pub packet_without_an_update : makes_fast (0x00 ∷ 0x02 ∷ []) ≡ refused 2 Broken
packet_without_an_update = refl

pub packet_without_an_update_of_the_longer_length : makes_fast (0x00 ∷ 0x80 ∷ 0x03 ∷ []) ≡ refused 3 Broken
packet_without_an_update_of_the_longer_length = refl

-- the bytes of a packet that has begun are unread
pub unread_first_byte : unread true (0x00 ∷ []) ≡ 0x00 ∷ []
unread_first_byte = refl

pub unread_first_byte_of_a_length : unread true (0x00 ∷ 0x80 ∷ []) ≡ 0x00 ∷ 0x80 ∷ []
unread_first_byte_of_a_length = refl

pub unread_bytes_of_a_mark : unread true (fast synchronized ++ 0x00 ∷ 0x05 ∷ 0x03 ∷ 0x00 ∷ []) ≡ 0x00 ∷ 0x05 ∷ 0x03 ∷ 0x00 ∷ []
unread_bytes_of_a_mark = refl

-- its length is 16,384, which is no short one
-- wrong: a length has 14 bits
pub unread_bytes_of_a_long_packet : unread true (0x00 ∷ 0xC0 ∷ 0x00 ∷ 0x00 ∷ []) ≡ 0x00 ∷ 0xC0 ∷ 0x00 ∷ 0x00 ∷ []
unread_bytes_of_a_long_packet = refl

-- ---- updates that are refused: the second of two, whose code is at 15, its size at 16, and its data at 18

abbrev after_a_fill : List ℕ → List ℕ
after_a_fill bytes = fast (ordered 1 filled ++ bytes)

-- the first is there for all that
-- wrong: where an update is broken none of its packet is obeyed
pub first_of_two_where_the_second_is_broken : updates_in true (after_a_fill (update 2 [])) ≡ updates (body_at 5 FastOrders (0x01 ∷ 0x00 ∷ filled) ∷ []) (cutting 18 (Refused 15))
first_of_two_where_the_second_is_broken = refl

abbrev obeyed : List ℕ → Result View Refusal
obeyed bytes = view_after_bodies (fast_viewer false) (size_of 8 4) (first_view (fast_viewer false) (size_of 8 4)) (updates_in true bytes).bodies

pub it_is_obeyed : bind (obeyed (after_a_fill (update 2 []))) (λ v. Ok v.client.picture) ≡ Ok (replicate 32 (Some 0x010203))
it_is_obeyed = refl

-- wrong: another code is refused behind it
pub another_code : makes_fast (after_a_fill (update 2 [])) ≡ refused 15 Broken
another_code = refl

-- bits of fragments and of compression beside that of a Synchronize
-- wrong: bits of fragments are ignored
pub code_of_a_fragment : makes_fast (after_a_fill (update 0x13 [])) ≡ refused 15 Broken
code_of_a_fragment = refl

-- wrong: bits of compression are ignored
pub code_with_compression : makes_fast (after_a_fill (update 0x83 [])) ≡ refused 15 Broken
code_with_compression = refl

-- wrong: a size that is cut is refused at its update's code
pub size_that_is_cut : makes_fast (after_a_fill (0x03 ∷ 0x00 ∷ [])) ≡ refused 16 Broken
size_that_is_cut = refl

-- wrong: data that don't fit are refused at their update's code, or at their size
-- wrong: data that don't fit are cut off
pub data_that_do_not_fit : makes_fast (after_a_fill (0x00 ∷ 0x03 ∷ 0x00 ∷ 0x00 ∷ 0x00 ∷ [])) ≡ refused 18 Broken
data_that_do_not_fit = refl

pub count_of_orders_that_is_cut : makes_fast (after_a_fill (update 0 (0x01 ∷ []))) ≡ refused 18 Broken
count_of_orders_that_is_cut = refl

-- behind a count and an OpaqueRect: control byte 04
pub order_that_is_none : makes_fast (after_a_fill (ordered 2 (refilled 0x04 ++ 0x04 ∷ []))) ≡ refused 25 Broken
order_that_is_none = refl

-- a Synchronize has no data
-- wrong: a Synchronize may have its four bytes
-- wrong: a Synchronize's data are dropped
pub synchronize_of_four_bytes : makes_fast (after_a_fill (update 3 (0x03 ∷ 0x00 ∷ 0x00 ∷ 0x00 ∷ []))) ≡ refused 18 Broken
synchronize_of_four_bytes = refl

-- two rectangles without the type before their number, which is read as another type
-- wrong: a bitmap's type isn't looked at
pub rectangles_without_their_type : makes_fast (after_a_fill (update 1 (0x02 ∷ 0x00 ∷ (row_of_four 0 0 0x0A ++ row_of_four 4 3 0x0B)))) ≡ refused 18 Broken
rectangles_without_their_type = refl

-- one without it: its number is the type, its left edge the number, and the rest are too many bytes
pub rectangle_without_its_type : makes_fast (after_a_fill (update 1 (0x01 ∷ 0x00 ∷ row_of_four 0 0 0x0A))) ≡ refused 22 Broken
rectangle_without_its_type = refl

pub bitmap_without_data : makes_fast (after_a_fill (update 1 [])) ≡ refused 18 Broken
bitmap_without_data = refl

-- by meaning, at the first byte of its data: columns 8 to 11, of which the surface has none
pub rectangle_outside_the_surface : makes_fast (after_a_fill (update 1 (0x01 ∷ 0x00 ∷ 0x01 ∷ 0x00 ∷ row_of_four 8 0 0x0A))) ≡ refused 18 Broken
rectangle_outside_the_surface = refl

-- MemBlt: width +8, height +4, rop CC
abbrev image_that_is_empty : List ℕ
image_that_is_empty = 0x59 ∷ 0x0D ∷ 0x38 ∷ 0x08 ∷ 0x04 ∷ 0xCC ∷ []

-- wrong: a refusal by meaning stands at its update's code, or behind the count
pub image_of_the_second : makes_fast (after_a_fill (ordered 1 image_that_is_empty)) ≡ refused 18 (Empty 0 0)
image_of_the_second = refl

-- a fault of the first stands before one of the second, of whatever kind
-- wrong: a later update's fault stands first
-- wrong: a refusal by meaning stands at its packet
pub image_of_the_first : makes_fast (fast (ordered 1 image_that_is_empty ++ update 2 [])) ≡ refused 5 (Empty 0 0)
image_of_the_first = refl

pub synchronize_of_one_byte_before_another_code : makes_fast (fast (update 3 (0x00 ∷ []) ++ update 2 [])) ≡ refused 5 Broken
synchronize_of_one_byte_before_another_code = refl
