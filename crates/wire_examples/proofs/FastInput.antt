-- A client's input by the fast path ([MS-RDPBCGR] 2.2.8.1.2): fields that a reader may take for each other.
use Rattle.std.proofs.Common.{◌≡◌, [], ◌∷◌, refl}
use Rattle.std.specs.Prelude.{true, false, Ok, Err}
use Rattle.tpkt_x224.specs.declared.tpkt.Packet.TheVariants.{Whole, NotTpkt}
use Rattle.input_pdu.specs.declared.event.Event.TheVariants.{Sync, Scan, Unicode, Mouse, MouseX}
use Rattle.fast_path.specs.Heads.{stream_packet_at}
use Rattle.fast_path.specs.Events.{mouse_at, event_at, first_at, length_at, count_at, event_count_at, fast_events}

-- the lowest two bits of a first byte are its action, and the highest two its flags, which its packet is read for
-- wrong: an action has one bit
pub first_byte_of_action_2 : stream_packet_at (0x06 ∷ 0x02 ∷ []) ≡ NotTpkt
first_byte_of_action_2 = refl

-- wrong: a first byte with flags is no packet's
pub first_byte_with_flags : stream_packet_at (0xC4 ∷ 0x03 ∷ 0x60 ∷ []) ≡ Whole 3
first_byte_with_flags = refl

-- flags, x, y
-- wrong: y of a mouse stands before x
pub mouse_at_20_300 : fast_events (0x04 ∷ 0x09 ∷ 0x20 ∷ 0x00 ∷ 0x90 ∷ 0x14 ∷ 0x00 ∷ 0x2C ∷ 0x01 ∷ []) ≡ Ok (Mouse 0x9000 20 300 ∷ [])
unfolding event_count_at first_at length_at count_at event_at mouse_at
mouse_at_20_300 = refl

-- six bytes of an extended mouse before a Synchronize
-- wrong: an extended mouse has no fields
pub event_behind_an_extended_mouse : fast_events (0x08 ∷ 0x0A ∷ 0x40 ∷ 0x01 ∷ 0x00 ∷ 0x02 ∷ 0x00 ∷ 0x03 ∷ 0x00 ∷ 0x60 ∷ []) ≡ Ok (MouseX ∷ Sync ∷ [])
unfolding event_count_at first_at length_at count_at event_at mouse_at
event_behind_an_extended_mouse = refl

-- all flags but that of a release
-- wrong: any flag is a release
-- wrong: a release has the highest flag
pub key_of_other_flags : fast_events (0x04 ∷ 0x04 ∷ 0x1E ∷ 0x58 ∷ []) ≡ Ok (Scan 0x58 false ∷ [])
unfolding event_count_at first_at length_at count_at event_at mouse_at
key_of_other_flags = refl

-- wrong: a sign has no release
pub sign_that_is_released : fast_events (0x04 ∷ 0x05 ∷ 0x81 ∷ 0x41 ∷ 0x01 ∷ []) ≡ Ok (Unicode 0x141 true ∷ [])
unfolding event_count_at first_at length_at count_at event_at mouse_at
sign_that_is_released = refl

-- fifteen events, the most that the first byte counts
-- wrong: the number has three bits
pub fifteen_events : fast_events (0x3C ∷ 0x11 ∷ 0x60 ∷ 0x60 ∷ 0x60 ∷ 0x60 ∷ 0x60 ∷ 0x60 ∷ 0x60 ∷ 0x60 ∷ 0x60 ∷ 0x60 ∷ 0x60 ∷ 0x60 ∷ 0x60 ∷ 0x60 ∷ 0x60 ∷ [])
    ≡ Ok (Sync ∷ Sync ∷ Sync ∷ Sync ∷ Sync ∷ Sync ∷ Sync ∷ Sync ∷ Sync ∷ Sync ∷ Sync ∷ Sync ∷ Sync ∷ Sync ∷ Sync ∷ [])
unfolding event_count_at first_at length_at count_at event_at mouse_at
fifteen_events = refl

-- of two faults the first byte's flag stands first, and then the first event's code
pub flag_before_a_code : fast_events (0x88 ∷ 0x04 ∷ 0xE0 ∷ 0xE0 ∷ []) ≡ Err 0
unfolding event_count_at first_at length_at count_at event_at mouse_at
flag_before_a_code = refl

-- wrong: the last of two faults stands first
pub first_of_two_codes : fast_events (0x08 ∷ 0x04 ∷ 0xA0 ∷ 0xE0 ∷ []) ≡ Err 2
unfolding event_count_at first_at length_at count_at event_at mouse_at
first_of_two_codes = refl
