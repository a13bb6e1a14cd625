-- Packets of the fast path, byte by byte.
use Rattle.std.proofs.Common.{◌≡◌, true, false, [], ◌∷◌, ◌++◌, refl}
use Rattle.std.specs.Prelude.{Ok, Err}
use Rattle.fast_path.specs.Written.{fast_headers}
use Rattle.order_means.specs.Updates.{updates, body_at, cutting, updates_in}
use Rattle.order_means.specs.Updates.BodyForm.{FastOrders, FastBitmap, FastSynchronize}
use Rattle.order_means.specs.Updates.Stage.{Between, Refused}
use Rattle.order_means.specs.UpdateBodies.{orders_packet, synchronize_packet}
use Rattle.order_means.specs.FrameMarks.{update_in, unread}
use Rattle.order_means.specs.FrameMarks.Update.{Orders, Synchronize}

-- a black order and its mark
first_frame : orders_packet true 1 (0x19 ∷ 0x0A ∷ 0x0C ∷ 0x40 ∷ 0x30 ∷ []) ++ synchronize_packet true
    ≡ 0x00 ∷ 0x0C ∷ 0x00 ∷ 0x07 ∷ 0x00 ∷ 0x01 ∷ 0x00 ∷ 0x19 ∷ 0x0A ∷ 0x0C ∷ 0x40 ∷ 0x30 ∷ 0x00 ∷ 0x05 ∷ 0x03 ∷ 0x00 ∷ 0x00 ∷ []
unfolding fast_headers
first_frame = refl

-- it is read as it was written; the mark has no data, and its place is behind its size
first_frame_read : updates_in true (0x00 ∷ 0x0C ∷ 0x00 ∷ 0x07 ∷ 0x00 ∷ 0x01 ∷ 0x00 ∷ 0x19 ∷ 0x0A ∷ 0x0C ∷ 0x40 ∷ 0x30 ∷ 0x00 ∷ 0x05 ∷ 0x03 ∷ 0x00 ∷ 0x00 ∷ [])
    ≡ updates (body_at 5 FastOrders (1 ∷ 0 ∷ 0x19 ∷ 0x0A ∷ 0x0C ∷ 0x40 ∷ 0x30 ∷ []) ∷ body_at 17 FastSynchronize [] ∷ []) (cutting 17 Between)
first_frame_read = refl

-- both updates in one packet, whose length has two bytes
two_in_one : updates_in true (0 ∷ 128 ∷ 11 ∷ 0 ∷ 2 ∷ 0 ∷ 0 ∷ 0 ∷ 3 ∷ 0 ∷ 0 ∷ []) ≡ updates (body_at 6 FastOrders (0 ∷ 0 ∷ []) ∷ body_at 11 FastSynchronize [] ∷ []) (cutting 11 Between)
two_in_one = refl

-- ---- what is left

first_byte : unread true (0 ∷ []) ≡ 0 ∷ []
first_byte = refl

half_a_length : unread true (0 ∷ 200 ∷ []) ≡ 0 ∷ 200 ∷ []
half_a_length = refl

a_front : unread true (0 ∷ 5 ∷ 3 ∷ 0 ∷ []) ≡ 0 ∷ 5 ∷ 3 ∷ 0 ∷ []
a_front = refl

-- ---- refused

-- by a viewer that doesn't take it, at once
not_taken : (updates_in false (0 ∷ [])).next ≡ cutting 1 (Refused 0)
not_taken = refl

-- flag bits in the first byte
flagged : (updates_in true (128 ∷ [])).next ≡ cutting 1 (Refused 0)
flagged = refl

-- a length of one byte, or of two, that is below the header: at its first byte
short_length : (updates_in true (0 ∷ 1 ∷ [])).next ≡ cutting 2 (Refused 1)
short_length = refl

short_long_length : (updates_in true (0 ∷ 128 ∷ 2 ∷ [])).next ≡ cutting 3 (Refused 1)
short_long_length = refl

-- no update
nothing_inside : (updates_in true (0 ∷ 2 ∷ [])).next ≡ cutting 2 (Refused 2)
nothing_inside = refl

nothing_inside_long : (updates_in true (0 ∷ 128 ∷ 3 ∷ [])).next ≡ cutting 3 (Refused 3)
nothing_inside_long = refl

-- another code, at it; a fragment bit is part of it
other_code : updates_in true (0 ∷ 5 ∷ 2 ∷ 0 ∷ 0 ∷ []) ≡ updates [] (cutting 5 (Refused 2))
other_code = refl

fragment : updates_in true (0 ∷ 5 ∷ 0x13 ∷ 0 ∷ 0 ∷ []) ≡ updates [] (cutting 5 (Refused 2))
fragment = refl

-- a size that isn't all there, and data that don't fit
half_a_size : updates_in true (0 ∷ 4 ∷ 3 ∷ 0 ∷ []) ≡ updates [] (cutting 4 (Refused 3))
half_a_size = refl

data_past_the_end : updates_in true (0 ∷ 6 ∷ 0 ∷ 2 ∷ 0 ∷ 0 ∷ []) ≡ updates [] (cutting 6 (Refused 5))
data_past_the_end = refl

-- the updates before a broken one are given first
second_code : updates_in true (0 ∷ 10 ∷ 3 ∷ 0 ∷ 0 ∷ 3 ∷ 0 ∷ 0 ∷ 7 ∷ 0 ∷ []) ≡ updates (body_at 5 FastSynchronize [] ∷ body_at 8 FastSynchronize [] ∷ []) (cutting 10 (Refused 8))
second_code = refl

-- ---- what data say

orders_said : update_in (body_at 5 FastOrders (2 ∷ 0 ∷ 9 ∷ 9 ∷ [])) ≡ Ok (Orders 2 (9 ∷ 9 ∷ []), [])
orders_said = refl

no_count : update_in (body_at 5 FastOrders (2 ∷ [])) ≡ Err (2 ∷ [])
no_count = refl

-- a type that isn't that of a Bitmap update is refused as one field
other_type : update_in (body_at 5 FastBitmap (1 ∷ 1 ∷ 0 ∷ 0 ∷ [])) ≡ Err (1 ∷ 1 ∷ 0 ∷ 0 ∷ [])
other_type = refl

synchronize_said : update_in (body_at 5 FastSynchronize []) ≡ Ok (Synchronize, [])
synchronize_said = refl

synchronize_with_data : update_in (body_at 5 FastSynchronize (0 ∷ [])) ≡ Err (0 ∷ [])
synchronize_with_data = refl
