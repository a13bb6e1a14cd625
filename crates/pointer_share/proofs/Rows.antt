-- Worked examples: the packets of the first pointers of a session.
use Rattle.std.proofs.Common.{◌≡◌, ℕ, List, [], ◌∷◌, ◌++◌, refl, Some, None, Err}
use Rattle.std.specs.Prelude.{true, false, length, take, replicate}
use Rattle.input_pdu.specs.declared.event.Event.TheVariants.{Scan, Unicode}
use Rattle.session_rules.specs.declared.entry.Entry.TheVariants.{Leave, Input}
use Rattle.session_rules.specs.Typing.{last_typed}
use Rattle.frame_rules.specs.Pointers.{pointer_color, wide_colors, key_shape}
use Rattle.order_means.specs.PointerPackets.{pointer_packet}
use Rattle.frame_rules.specs.Told.{message_6, message_7, told_packet}
use Rattle.pointer_share.specs.declared.fault.Cause.TheVariants.{Broken, Missing}
use Rattle.pointer_share.specs.Views.{opening_view, view_after}

-- viewer 1 holds control and typed nothing
abbrev first : ℕ
first = 256

-- key 58 of another, so viewer 2 holds it
abbrev second : ℕ
second = 512

abbrev front : List ℕ
front = 3 ∷ 0 ∷ 1 ∷ 3 ∷ 2 ∷ 0xF0 ∷ 0x80 ∷ 0x68 ∷ 0 ∷ 1 ∷ 3 ∷ 0xEB ∷ 0x70 ∷ 0x80 ∷ 0xF4 ∷ 0xF4 ∷ 0 ∷ 0x17 ∷ 0 ∷ 0xEA ∷ 3 ∷ 0xEA ∷ 3 ∷ 1 ∷ 0 ∷ 0 ∷ 1 ∷ 0xE6 ∷ 0 ∷ 0x1B ∷ 0 ∷ 0 ∷ 0
    ∷ 6 ∷ 0 ∷ 0 ∷ 0 ∷ 0 ∷ 0 ∷ 0 ∷ 0 ∷ 0 ∷ 0 ∷ 8 ∷ 0 ∷ 8 ∷ 0 ∷ 0x10 ∷ 0 ∷ 0xC0 ∷ 0 ∷ []

-- a row of the arrow has n pixels
abbrev arrow_row : ℕ → ℕ → List ℕ
arrow_row n others = replicate n 0x22 ++ replicate others 0

abbrev colors : List ℕ
colors = arrow_row 24 0 ++ arrow_row 21 3 ++ arrow_row 18 6 ++ arrow_row 15 9 ++ arrow_row 12 12 ++ arrow_row 9 15 ++ arrow_row 6 18 ++ arrow_row 3 21

abbrev mask : List ℕ
mask = 0 ∷ 0 ∷ 1 ∷ 0 ∷ 3 ∷ 0 ∷ 7 ∷ 0 ∷ 0xF ∷ 0 ∷ 0x1F ∷ 0 ∷ 0x3F ∷ 0 ∷ 0x7F ∷ 0 ∷ []

-- the first packet has 259 bytes
first_packet : told_packet false 2 [] first ≡ Some (front ++ (colors ++ mask))
first_packet = refl

-- the first pointer is shown again: its entry is 0
first_again : told_packet false 2 (second ∷ first ∷ []) first ≡ Some (3 ∷ 0 ∷ 0 ∷ 0x26 ∷ 2 ∷ 0xF0 ∷ 0x80 ∷ 0x68 ∷ 0 ∷ 1 ∷ 3 ∷ 0xEB ∷ 0x70 ∷ 0x18 ∷ 0x18 ∷ 0 ∷ 0x17 ∷ 0 ∷ 0xEA ∷ 3 ∷ 0xEA ∷ 3 ∷ 1 ∷ 0 ∷ 0 ∷ 1 ∷ 0xA ∷ 0 ∷ 0x1B ∷ 0 ∷ 0 ∷ 0
    ∷ 7 ∷ 0 ∷ 0 ∷ 0 ∷ 0 ∷ 0 ∷ [])
first_again = refl

-- the second goes to entry 1
second_packet : told_packet false 2 (first ∷ []) second ≡ Some (pointer_packet (message_6 false 1 (key_shape false second)))
second_packet = refl

-- what was told last isn't told again
kept : told_packet false 2 (first ∷ []) first ≡ None
kept = refl

-- with one cell each change is sent with its shape, at entry 0
one_cell : told_packet false 1 (second ∷ first ∷ []) first ≡ Some (pointer_packet (message_6 false 0 (key_shape false first)))
one_cell = refl

-- a shape that was given up is sent again, at the entry of the one used longest ago
given_up : told_packet false 2 (768 ∷ second ∷ first ∷ []) first ≡ Some (pointer_packet (message_6 false 1 (key_shape false first)))
given_up = refl

-- a code is typed where a key of it is pressed: neither the space nor the delete, and no key that is released
typed : last_typed (Input 1 (Unicode 0x21 false) ∷ Input 2 (Unicode 0x7E false) ∷ []) ≡ Some 0x7E
typed = refl

not_typed : last_typed (Input 1 (Unicode 0x41 false) ∷ Input 1 (Unicode 0x20 false) ∷ Input 1 (Unicode 0x7F false) ∷ Input 1 (Unicode 0x42 true) ∷ Input 1 (Scan 0x43 false) ∷ Leave 1 ∷ []) ≡ Some 0x41
not_typed = refl

-- the colours of holders 15 and 1 modulo 16: the highest loses what is above 24 bits
colored : pointer_color 15 ≡ 0x111110
colored = refl

-- a cautious viewer's shape: the right half of each row is clear
wide_row : wide_colors true (0x22 ∷ 0x22 ∷ 0x22 ∷ []) 0x80 ≡ replicate 3 0x22 ++ replicate 45 0
wide_row = refl

wide_bottom : take 2 (key_shape true first).mask ≡ 0 ∷ 0xFF ∷ []
wide_bottom = refl

wide_size : length (message_6 true 0 (key_shape true first)) ≡ 418
wide_size = refl

-- at 25 cells the first pointer is still held after 24 others
held : told_packet false 25 (25 ∷ 24 ∷ 23 ∷ 22 ∷ 21 ∷ 20 ∷ 19 ∷ 18 ∷ 17 ∷ 16 ∷ 15 ∷ 14 ∷ 13 ∷ 12 ∷ 11 ∷ 10 ∷ 9 ∷ 8 ∷ 7 ∷ 6 ∷ 5 ∷ 4 ∷ 3 ∷ 2 ∷ 1 ∷ []) 1 ≡ Some (pointer_packet (message_7 0))
held = refl

-- a message of other sides is refused at them, and one that shows an empty entry at its index
other_sides : view_after false (opening_view 2) (message_6 true 0 (key_shape true first)) ≡ Err (Broken, 10)
other_sides = refl

empty_entry : view_after false (opening_view 2) (message_7 1) ≡ Err (Missing 1, 4)
empty_entry = refl

past_cells : view_after false (opening_view 2) (message_6 false 2 (key_shape false first)) ≡ Err (Missing 2, 4)
past_cells = refl

left_over : view_after false (record { cells = Some (key_shape false first) ∷ []; shown = None }) (message_7 0 ++ 9 ∷ []) ≡ Err (Broken, 6)
left_over = refl

other_message : view_after false (opening_view 2) (8 ∷ 0 ∷ 0 ∷ 0 ∷ []) ≡ Err (Broken, 0)
other_message = refl
