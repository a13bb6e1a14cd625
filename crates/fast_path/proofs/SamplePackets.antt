-- Packets worked out by hand.
use Rattle.std.proofs.Common.{◌≡◌, ℕ, [], ◌∷◌, refl}
use Rattle.std.specs.Prelude.{Ok, Err, true, false, replicate, flat_map}
use Rattle.tpkt_x224.specs.declared.tpkt.Packet.TheVariants.{Whole, Part, NotTpkt, BadLength}
use Rattle.tpkt_x224.specs.Pieces.{packets_with}
use Rattle.input_pdu.specs.declared.event.Event.TheVariants.{Sync, Scan, Unicode, Mouse, MouseX}
use Rattle.fast_path.specs.Heads.{fast_packet_at, stream_packet_at}
use Rattle.fast_path.specs.Events.{mouse_at, event_at, first_at, length_at, count_at, event_count_at, fast_events}
use Rattle.fast_path.specs.Written.{fast_headers, fast_packet}

-- ---- heads

-- a length of 0, of 1, and of 2 in two bytes: refused as soon as their bytes are there
no_length : stream_packet_at (0x00 ∷ 0x00 ∷ []) ≡ BadLength
no_length = refl

length_of_one : stream_packet_at (0x00 ∷ 0x01 ∷ []) ≡ BadLength
length_of_one = refl

two_in_two_bytes : stream_packet_at (0x00 ∷ 0x80 ∷ 0x02 ∷ []) ≡ BadLength
two_in_two_bytes = refl

half_a_length : stream_packet_at (0x00 ∷ 0x80 ∷ []) ≡ Part
half_a_length = refl

-- the least length of each form, and a short length in two bytes
length_of_two : stream_packet_at (0x00 ∷ 0x02 ∷ []) ≡ Whole 2
length_of_two = refl

three_in_two_bytes : stream_packet_at (0x00 ∷ 0x80 ∷ 0x03 ∷ []) ≡ Whole 3
three_in_two_bytes = refl

-- the low two bits of a first byte are neither 3 of TPKT nor 0
another_action : stream_packet_at (0x07 ∷ 0x00 ∷ 0x00 ∷ 0x08 ∷ []) ≡ NotTpkt
another_action = refl

-- lengths of 127 and 129 bytes; one byte less is there
of_127 : fast_packet_at (0 ∷ 127 ∷ replicate 125 0) ≡ Whole 127
of_127 = refl

of_126 : fast_packet_at (0 ∷ 127 ∷ replicate 124 0) ≡ Part
of_126 = refl

of_129 : fast_packet_at (0 ∷ 0x80 ∷ 129 ∷ replicate 126 0) ≡ Whole 129
of_129 = refl

of_128 : fast_packet_at (0 ∷ 0x80 ∷ 129 ∷ replicate 125 0) ≡ Part
of_128 = refl

-- a packet of each kind, and a part of another
both_kinds : packets_with stream_packet_at (0x04 ∷ 0x03 ∷ 0x60 ∷ 3 ∷ 0 ∷ 0 ∷ 7 ∷ 2 ∷ 0xF0 ∷ 0x80 ∷ 0x00 ∷ 0x02 ∷ 3 ∷ 0 ∷ [])
    ≡ record { packets = (0x04 ∷ 0x03 ∷ 0x60 ∷ []) ∷ (3 ∷ 0 ∷ 0 ∷ 7 ∷ 2 ∷ 0xF0 ∷ 0x80 ∷ []) ∷ (0x00 ∷ 0x02 ∷ []) ∷ []; rest = 3 ∷ 0 ∷ [] }
both_kinds = refl

-- ---- events

-- the mouse with button 1 down at (20, 20), and the press of a key
a_click_and_a_key : fast_events (0x08 ∷ 0x0B ∷ 0x20 ∷ 0x00 ∷ 0x90 ∷ 0x14 ∷ 0x00 ∷ 0x14 ∷ 0x00 ∷ 0x00 ∷ 0x1E ∷ []) ≡ Ok (Mouse 0x9000 20 20 ∷ Scan 0x1E false ∷ [])
unfolding event_count_at first_at length_at count_at event_at mouse_at
a_click_and_a_key = refl

-- the same with its length in two bytes
in_two_bytes : fast_events (0x08 ∷ 0x80 ∷ 0x0C ∷ 0x20 ∷ 0x00 ∷ 0x90 ∷ 0x14 ∷ 0x00 ∷ 0x14 ∷ 0x00 ∷ 0x00 ∷ 0x1E ∷ []) ≡ Ok (Mouse 0x9000 20 20 ∷ Scan 0x1E false ∷ [])
unfolding event_count_at first_at length_at count_at event_at mouse_at
in_two_bytes = refl

-- an event of another code, at the event
another_code : fast_events (0x04 ∷ 0x03 ∷ 0xE0 ∷ []) ≡ Err 2
unfolding event_count_at first_at length_at count_at event_at mouse_at
another_code = refl

-- each flag bit, at the first byte
a_checksum : fast_events (0x44 ∷ 0x03 ∷ 0x60 ∷ []) ≡ Err 0
unfolding event_count_at first_at length_at count_at event_at mouse_at
a_checksum = refl

encrypted : fast_events (0x84 ∷ 0x03 ∷ 0x60 ∷ []) ≡ Err 0
unfolding event_count_at first_at length_at count_at event_at mouse_at
encrypted = refl

-- no number, where it should begin, and no event
no_number : fast_events (0x00 ∷ 0x02 ∷ []) ≡ Err 2
unfolding event_count_at first_at length_at count_at event_at mouse_at
no_number = refl

no_event : fast_events (0x04 ∷ 0x02 ∷ []) ≡ Err 2
unfolding event_count_at first_at length_at count_at event_at mouse_at
no_event = refl

-- both numbers are 0
no_events : fast_events (0x00 ∷ 0x03 ∷ 0x00 ∷ []) ≡ Ok []
unfolding event_count_at first_at length_at count_at event_at mouse_at
no_events = refl

-- a number of its own
one_counted : fast_events (0x00 ∷ 0x04 ∷ 0x01 ∷ 0x60 ∷ []) ≡ Ok (Sync ∷ [])
unfolding event_count_at first_at length_at count_at event_at mouse_at
one_counted = refl

-- sixteen events, of which the first byte can't have the number
sixteen : fast_events (0x00 ∷ 0x23 ∷ 0x10 ∷ flat_map {X = ℕ} (λ n. 0x01 ∷ 0x10 ∷ []) (replicate 16 0)) ≡ Ok (replicate 16 (Scan 0x10 true))
unfolding event_count_at first_at length_at count_at event_at mouse_at
sixteen = refl

-- a released key, of whose flags the lowest alone is read; a sign by its code; the two events that change nothing; and a byte that is left over
each_code : fast_events (0x10 ∷ 0x0F ∷ 0x1F ∷ 0x58 ∷ 0x80 ∷ 0x41 ∷ 0x01 ∷ 0x60 ∷ 0x40 ∷ 1 ∷ 0 ∷ 2 ∷ 0 ∷ 3 ∷ 0 ∷ 0xFF ∷ [])
    ≡ Ok (Scan 0x58 true ∷ Unicode 0x141 false ∷ Sync ∷ MouseX ∷ [])
unfolding event_count_at first_at length_at count_at event_at mouse_at
each_code = refl

-- half of a mouse's y, half of a code, no code, and the second of three events
half_a_place : fast_events (0x04 ∷ 0x08 ∷ 0x20 ∷ 0x00 ∷ 0x90 ∷ 0x14 ∷ 0x00 ∷ 0x14 ∷ []) ≡ Err 7
unfolding event_count_at first_at length_at count_at event_at mouse_at
half_a_place = refl

half_a_code : fast_events (0x04 ∷ 0x04 ∷ 0x80 ∷ 0x41 ∷ []) ≡ Err 3
unfolding event_count_at first_at length_at count_at event_at mouse_at
half_a_code = refl

no_code : fast_events (0x04 ∷ 0x03 ∷ 0x00 ∷ []) ≡ Err 3
unfolding event_count_at first_at length_at count_at event_at mouse_at
no_code = refl

the_second : fast_events (0x0C ∷ 0x06 ∷ 0x60 ∷ 0xA0 ∷ 0x1E ∷ 0xE0 ∷ []) ≡ Err 3
unfolding event_count_at first_at length_at count_at event_at mouse_at
the_second = refl

-- ---- updates

-- one order, a black fill of a whole picture
a_fill : fast_packet 0 (0x01 ∷ 0x00 ∷ 0x19 ∷ 0x0A ∷ 0x0C ∷ 0x40 ∷ 0x30 ∷ []) ≡ 0x00 ∷ 0x0C ∷ 0x00 ∷ 0x07 ∷ 0x00 ∷ 0x01 ∷ 0x00 ∷ 0x19 ∷ 0x0A ∷ 0x0C ∷ 0x40 ∷ 0x30 ∷ []
unfolding fast_headers
a_fill = refl

-- a mark
a_synchronize : fast_packet 3 [] ≡ 0x00 ∷ 0x05 ∷ 0x03 ∷ 0x00 ∷ 0x00 ∷ []
unfolding fast_headers
a_synchronize = refl

-- the greatest packet whose length has one byte, and the least whose length has two: there is none of 128 bytes
of_127_bytes : fast_packet 0 (replicate 122 7) ≡ 0x00 ∷ 0x7F ∷ 0x00 ∷ 0x7A ∷ 0x00 ∷ replicate 122 7
unfolding fast_headers
of_127_bytes = refl

of_129_bytes : fast_packet 0 (replicate 123 7) ≡ 0x00 ∷ 0x80 ∷ 0x81 ∷ 0x00 ∷ 0x7B ∷ 0x00 ∷ replicate 123 7
unfolding fast_headers
of_129_bytes = refl
