-- Worked examples: what a viewer shows of pointer packets, and which of them are refused, at which place.
use Rattle.std.proofs.Common.{◌≡◌, ℕ, ◌+◌, List, [], ◌∷◌, ◌++◌, refl, Some, None, Ok, Err}
use Rattle.std.specs.Prelude.{true, false, take, drop, replicate}
use Rattle.pointer_share.specs.declared.fault.Cause.TheVariants.{Broken, Missing}
use Rattle.frame_rules.specs.Pointers.{key_shape}
use Rattle.order_means.specs.PointerPackets.{pointer_packet}
use Rattle.frame_rules.specs.Told.{message_6, message_7}
use Rattle.pointer_share.specs.Views.{View, opening_view, view_fed}
use Rattle.pointer_share.specs.Outlines.{outline}
use Rattle.share_pdu.specs.Packet.{update_packet}

-- the first pointer of viewer 1 as the session sends it: message 6 at entry 0, 259 bytes
abbrev arrow_row : ℕ → ℕ → List ℕ
arrow_row n others = replicate n 0x22 ++ replicate others 0

abbrev front : List ℕ
front = 3 ∷ 0 ∷ 1 ∷ 3 ∷ 2 ∷ 0xF0 ∷ 0x80 ∷ 0x68 ∷ 0 ∷ 1 ∷ 3 ∷ 0xEB ∷ 0x70 ∷ 0x80 ∷ 0xF4 ∷ 0xF4 ∷ 0 ∷ 0x17 ∷ 0 ∷ 0xEA ∷ 3 ∷ 0xEA ∷ 3 ∷ 1 ∷ 0 ∷ 0 ∷ 1 ∷ 0xE6 ∷ 0 ∷ 0x1B ∷ 0 ∷ 0 ∷ 0
    ∷ 6 ∷ 0 ∷ 0 ∷ 0 ∷ 0 ∷ 0 ∷ 0 ∷ 0 ∷ 0 ∷ 0 ∷ 8 ∷ 0 ∷ 8 ∷ 0 ∷ 0x10 ∷ 0 ∷ 0xC0 ∷ 0 ∷ []

abbrev colors : List ℕ
colors = arrow_row 24 0 ++ arrow_row 21 3 ++ arrow_row 18 6 ++ arrow_row 15 9 ++ arrow_row 12 12 ++ arrow_row 9 15 ++ arrow_row 6 18 ++ arrow_row 3 21

abbrev mask : List ℕ
mask = 0 ∷ 0 ∷ 1 ∷ 0 ∷ 3 ∷ 0 ∷ 7 ∷ 0 ∷ 0xF ∷ 0 ∷ 0x1F ∷ 0 ∷ 0x3F ∷ 0 ∷ 0x7F ∷ 0 ∷ []

abbrev first : List ℕ
first = front ++ (colors ++ mask)

-- the same with another byte at a place
abbrev changed : ℕ → ℕ → List ℕ
changed place value = take place first ++ value ∷ drop (place + 1) first

-- message 7 for entry 0, 38 bytes
abbrev again : List ℕ
again = 3 ∷ 0 ∷ 0 ∷ 0x26 ∷ 2 ∷ 0xF0 ∷ 0x80 ∷ 0x68 ∷ 0 ∷ 1 ∷ 3 ∷ 0xEB ∷ 0x70 ∷ 0x18 ∷ 0x18 ∷ 0 ∷ 0x17 ∷ 0 ∷ 0xEA ∷ 3 ∷ 0xEA ∷ 3 ∷ 1 ∷ 0 ∷ 0 ∷ 1 ∷ 0xA ∷ 0 ∷ 0x1B ∷ 0 ∷ 0 ∷ 0 ∷ 7 ∷ 0 ∷ 0 ∷ 0 ∷ 0 ∷ 0 ∷ []

abbrev shown_first : View
shown_first = record { cells = Some (record { xor = colors; mask = mask }) ∷ None ∷ []; shown = Some (record { xor = colors; mask = mask }) }

-- ---- read

first_is_shown : view_fed false (opening_view 2) first ≡ Ok (shown_first, true)
first_is_shown = refl

held_is_shown : view_fed false (record shown_first { shown = None }) again ≡ Ok (shown_first, true)
held_is_shown = refl

-- the blue of its colour, and its top row
arrow_seen : outline false (key_shape false 256) ≡ (0x22, 0x80)
arrow_seen = refl

sign_seen : outline false (key_shape false 0x258) ≡ (0x33, 0x58)
sign_seen = refl

wide_seen : outline true (key_shape true 0x258) ≡ (0x33, 0x58)
wide_seen = refl

-- the highest colour loses what is above 24 bits
last_color_seen : outline false (key_shape false 0xF21) ≡ (0x10, 0x21)
last_color_seen = refl

-- no pixel is set; and the last pixel alone
nothing_seen : outline false (record { xor = replicate 192 7; mask = replicate 16 255 }) ≡ (0, 0)
nothing_seen = refl

last_pixel_seen : outline false (record { xor = replicate 21 0 ++ 9 ∷ replicate 170 0; mask = 0xFE ∷ replicate 15 255 }) ≡ (9, 0)
last_pixel_seen = refl

last_wide_pixel_seen : outline true (record { xor = replicate 45 0 ++ 9 ∷ replicate 338 0; mask = 255 ∷ 0xFE ∷ replicate 14 255 }) ≡ (9, 0)
last_wide_pixel_seen = refl

-- any bits of a shape are taken, those of the mask's padding too
any_bits : view_fed false (opening_view 1) (pointer_packet (message_6 false 0 (record { xor = replicate 192 5; mask = replicate 16 9 })))
    ≡ Ok (record { cells = Some (record { xor = replicate 192 5; mask = replicate 16 9 }) ∷ []; shown = Some (record { xor = replicate 192 5; mask = replicate 16 9 }) }, true)
any_bits = refl

-- what stands behind the total is passed over
behind_the_total : view_fed false shown_first (3 ∷ 0 ∷ 0 ∷ 0x27 ∷ 2 ∷ 0xF0 ∷ 0x80 ∷ 0x68 ∷ 0 ∷ 1 ∷ 3 ∷ 0xEB ∷ 0x70 ∷ 0x19 ∷ (drop 14 again ++ 9 ∷ [])) ≡ Ok (shown_first, true)
behind_the_total = refl

-- ---- no pointer packets

update_is_none : view_fed false shown_first (update_packet (3 ∷ 0 ∷ 0 ∷ 0 ∷ [])) ≡ Ok (shown_first, false)
update_is_none = refl

fast_is_none : view_fed false shown_first (0 ∷ 5 ∷ 3 ∷ 0 ∷ 0 ∷ []) ≡ Ok (shown_first, false)
fast_is_none = refl

other_channel : view_fed false (opening_view 2) (changed 11 0xEC) ≡ Ok (opening_view 2, false)
other_channel = refl

other_kind : view_fed false (opening_view 2) (changed 29 0x1C) ≡ Ok (opening_view 2, false)
other_kind = refl

other_type : view_fed false (opening_view 2) (changed 17 0x16) ≡ Ok (opening_view 2, false)
other_type = refl

-- a length that isn't that of the user data
other_length : view_fed false (opening_view 2) (changed 14 0xF3) ≡ Ok (opening_view 2, false)
other_length = refl

two_packets : view_fed false shown_first (again ++ again) ≡ Ok (shown_first, false)
two_packets = refl

part_of_one : view_fed false shown_first (take 37 again) ≡ Ok (shown_first, false)
part_of_one = refl

-- ---- refused

compressed : view_fed false (opening_view 2) (changed 30 0x20) ≡ Err (Broken, 30)
compressed = refl

other_message : view_fed false (opening_view 2) (changed 33 8) ≡ Err (Broken, 33)
other_message = refl

-- the type is one field of four bytes
other_pad : view_fed false (opening_view 2) (changed 36 1) ≡ Err (Broken, 33)
other_pad = refl

past_the_cells : view_fed false (opening_view 2) (changed 37 2) ≡ Err (Missing 2, 37)
past_the_cells = refl

empty_entry : view_fed false (opening_view 2) again ≡ Err (Missing 0, 36)
empty_entry = refl

-- an index past the cells goes before what stands behind it
index_first : view_fed false (opening_view 0) (changed 39 1) ≡ Err (Missing 0, 37)
index_first = refl

other_hot_spot : view_fed false (opening_view 2) (changed 41 1) ≡ Err (Broken, 39)
other_hot_spot = refl

other_width : view_fed false (opening_view 2) (changed 43 16) ≡ Err (Broken, 43)
other_width = refl

other_height : view_fed false (opening_view 2) (changed 45 7) ≡ Err (Broken, 43)
other_height = refl

other_mask_length : view_fed false (opening_view 2) (changed 47 8) ≡ Err (Broken, 47)
other_mask_length = refl

other_xor_length : view_fed false (opening_view 2) (changed 50 1) ≡ Err (Broken, 49)
other_xor_length = refl

left_over : view_fed false shown_first (pointer_packet (message_7 0 ++ 9 ∷ [])) ≡ Err (Broken, 38)
left_over = refl

-- a total that ends within the mask, and one right behind the kind
short_total : view_fed false (opening_view 2) (changed 15 0xF3) ≡ Err (Broken, 243)
short_total = refl

kind_alone : view_fed false (opening_view 2) (take 15 first ++ 15 ∷ 0 ∷ drop 17 first) ≡ Err (Broken, 30)
kind_alone = refl

-- a cautious viewer's view reads sides of 16 and no others, and no other view reads these
narrow_for_wide : view_fed true (opening_view 2) first ≡ Err (Broken, 43)
narrow_for_wide = refl

wide_for_narrow : view_fed false (opening_view 2) (pointer_packet (message_6 true 0 (key_shape true 256))) ≡ Err (Broken, 43)
wide_for_narrow = refl

wide_is_shown : view_fed true (opening_view 1) (pointer_packet (message_6 true 0 (key_shape true 256))) ≡ Ok (record { cells = Some (key_shape true 256) ∷ []; shown = Some (key_shape true 256) }, true)
wide_is_shown = refl
