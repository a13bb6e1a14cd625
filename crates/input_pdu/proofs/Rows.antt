-- The definitions on bodies worked out by hand.
use Rattle.std.proofs.Common.{◌≡◌, [], ◌∷◌, refl}
use Rattle.std.specs.Prelude.{Ok, Err, true, false}
use Rattle.input_pdu.specs.declared.event.Event.TheVariants.{Sync, Scan, Unicode, Mouse, MouseX}
use Rattle.input_pdu.specs.Events.{event_at, event_count_at, events_of}

-- the mouse with button 1 down at (20, 20)
a_click : events_of (1 ∷ 0 ∷ 0 ∷ 0 ∷ 9 ∷ 9 ∷ 9 ∷ 9 ∷ 0x01 ∷ 0x80 ∷ 0x00 ∷ 0x90 ∷ 20 ∷ 0 ∷ 20 ∷ 0 ∷ []) ≡ Ok (Mouse 0x9000 20 20 ∷ [])
unfolding event_count_at event_at
a_click = refl

-- F1 goes down, an event of another type, and F1 goes up; a byte is left over
a_key : events_of (3 ∷ 0 ∷ 0 ∷ 0
    ∷ 0 ∷ 0 ∷ 0 ∷ 0 ∷ 4 ∷ 0 ∷ 0 ∷ 0 ∷ 0x3B ∷ 0 ∷ 0 ∷ 0
    ∷ 0 ∷ 0 ∷ 0 ∷ 0 ∷ 6 ∷ 0 ∷ 1 ∷ 2 ∷ 3 ∷ 4 ∷ 5 ∷ 6
    ∷ 0 ∷ 0 ∷ 0 ∷ 0 ∷ 4 ∷ 0 ∷ 0 ∷ 0xC0 ∷ 0x3B ∷ 0 ∷ 0 ∷ 0 ∷ 7 ∷ []) ≡ Ok (Scan 0x3B false ∷ Scan 0x3B true ∷ [])
unfolding event_count_at event_at
a_key = refl

-- a sign by its code, and the two types whose data aren't told
a_sign : events_of (3 ∷ 0 ∷ 5 ∷ 5
    ∷ 0 ∷ 0 ∷ 0 ∷ 0 ∷ 5 ∷ 0 ∷ 0 ∷ 0 ∷ 0x41 ∷ 1 ∷ 0 ∷ 0
    ∷ 0 ∷ 0 ∷ 0 ∷ 0 ∷ 0 ∷ 0 ∷ 0 ∷ 0 ∷ 7 ∷ 0 ∷ 0 ∷ 0
    ∷ 0 ∷ 0 ∷ 0 ∷ 0 ∷ 2 ∷ 0x80 ∷ 1 ∷ 0 ∷ 2 ∷ 0 ∷ 3 ∷ 0 ∷ []) ≡ Ok (Unicode 0x141 false ∷ Sync ∷ MouseX ∷ [])
unfolding event_count_at event_at
a_sign = refl

no_event : events_of (0 ∷ 0 ∷ 0 ∷ 0 ∷ []) ≡ Ok []
unfolding event_count_at event_at
no_event = refl

-- half a count, half a pad, no event, half a time, half a type, and half of the six bytes
half_a_count : events_of (1 ∷ []) ≡ Err 0
unfolding event_count_at event_at
half_a_count = refl

half_a_pad : events_of (1 ∷ 0 ∷ 0 ∷ []) ≡ Err 2
unfolding event_count_at event_at
half_a_pad = refl

no_time : events_of (1 ∷ 0 ∷ 0 ∷ 0 ∷ []) ≡ Err 4
unfolding event_count_at event_at
no_time = refl

half_a_type : events_of (1 ∷ 0 ∷ 0 ∷ 0 ∷ 0 ∷ 0 ∷ 0 ∷ 0 ∷ 4 ∷ []) ≡ Err 8
unfolding event_count_at event_at
half_a_type = refl

half_of_the_data : events_of (2 ∷ 0 ∷ 0 ∷ 0
    ∷ 0 ∷ 0 ∷ 0 ∷ 0 ∷ 4 ∷ 0 ∷ 0 ∷ 0 ∷ 0x3B ∷ 0 ∷ 0 ∷ 0
    ∷ 0 ∷ 0 ∷ 0 ∷ 0 ∷ 4 ∷ 0 ∷ 0 ∷ 0 ∷ 0x3B ∷ 0 ∷ 0 ∷ []) ≡ Err 22
unfolding event_count_at event_at
half_of_the_data = refl
