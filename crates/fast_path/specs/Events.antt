-- The events of a client's fast-path packet ([MS-RDPBCGR] 2.2.8.1.2).
use Rattle.std.specs.Prelude.{◌≡◌, ℕ, zero, suc, ◌/◌, ◌==◌, nat_lt, Bool, List, [], ◌∷◌, ◌++◌, Result, Ok, Err, IsOk, if◌then◌else◌}
use Rattle.wire_num.specs.FieldValue.{has_bits, placed}
use Rattle.wire_num.specs.Field.{Read, then_read, map_read, given}
use Rattle.wire_num.specs.Number.{big_at, little_at}
use Rattle.wire_num.specs.Cursor.{CursorOf, rest}
use Rattle.wire_num.specs.declared.short.Short.{Short}
use Rattle.input_pdu.specs.declared.event.Event.{Event}
use Rattle.input_pdu.specs.declared.event.Event.TheVariants.{Sync, Scan, Unicode, Mouse, MouseX}
use Rattle.input_pdu.specs.declared.input_fault.InputFault.{InputFault}
use Rattle.input_pdu.specs.declared.input_fault.InputFault.TheVariants.{BadInput, OutOfMemory}

-- ---- one event

-- FASTPATH_INPUT_KBDFLAGS_RELEASE 0x01, the one flag that is read
abbrev pub is_released : ℕ → Bool
is_released first = has_bits 1 first

-- a key by its scan code
abbrev pub scan_at : Bool → List ℕ → Read Event
scan_at up bs = map_read (λ code. Scan code up) (big_at 1 bs)

-- a key by its Unicode code
abbrev pub unicode_at : Bool → List ℕ → Read Event
unicode_at up bs = map_read (λ code. Unicode code up) (little_at 2 bs)

-- pointerFlags, x and y
unfoldable pub mouse_at : (ℕ → ℕ → ℕ → Event) → List ℕ → Read Event
mouse_at event bs = then_read (little_at 2 bs) (λ flags a. then_read (little_at 2 a) (λ x b. map_read (event flags x) (little_at 2 b)))

-- the event of a code with these flags, behind its first byte; another code is refused at the event
abbrev pub event_by : ℕ → ℕ → List ℕ → List ℕ → Read Event
event_by code first whole bs =
    if code == 0 then scan_at (is_released first) bs
    else (if code == 1 then mouse_at (λ flags x y. Mouse flags x y) bs
    else (if code == 2 then mouse_at (λ flags x y. MouseX) bs
    else (if code == 3 then Ok (Sync, bs)
    else (if code == 4 then unicode_at (is_released first) bs else Err whole))))

-- a byte with flags in its low five bits and a code in its top three, and the code's fields
unfoldable pub event_at : List ℕ → Read Event
event_at bs = then_read (big_at 1 bs) (λ first more. event_by (first / 32) first bs more)

-- ---- a packet

-- so many events
abbrev pub events_at : ℕ → List ℕ → Read (List Event)
events_at zero bs = Ok ([], bs)
events_at (suc n) bs = then_read (event_at bs) (λ event more. map_read (λ events. event ∷ events) (events_at n more))

-- so many events, whatever they are
abbrev pub passed_events_at : ℕ → List ℕ → Read (List ℕ)
passed_events_at n bs = map_read (λ _. []) (events_at n bs)

-- the packet's first byte, whose top two bits are flags: a set one is refused
unfoldable pub first_at : List ℕ → Read ℕ
first_at bs = then_read (big_at 1 bs) (λ first more. given (nat_lt first 64) first more bs)

-- the packet's length, by which the packet was cut: one byte below 128, or two
unfoldable pub length_at : List ℕ → Read (List ℕ)
length_at bs = then_read (big_at 1 bs) (λ high more. if nat_lt high 128 then Ok ([], more) else map_read (λ _. []) (big_at 1 more))

-- the number of events: that of the first byte, or, where that is 0, a byte of its own
unfoldable pub count_at : ℕ → List ℕ → Read ℕ
count_at n bs = if n == 0 then big_at 1 bs else Ok (n, bs)

-- all before the events
unfoldable pub event_count_at : List ℕ → Read ℕ
event_count_at bs = then_read (first_at bs) (λ first a. then_read (length_at a) (λ _ b. count_at (first / 4) b))

-- the events of a packet, and the bytes after them, which are dropped
abbrev pub fast_events_at : List ℕ → Read (List Event)
fast_events_at bs = then_read (event_count_at bs) (λ count more. events_at count more)

-- the events of a packet, or the place of the first field that breaks its rule
abbrev pub fast_events : List ℕ → Result (List Event) ℕ
fast_events bs = placed (λ at. at) bs (fast_events_at bs)

-- ---- what a call says that appends the events to a list

-- the events were appended, or for want of memory a front of them
abbrev pub AppendsEvents : List Event → Result (Unit {0}) InputFault → List Event → List Event → Type 0
AppendsEvents events (Ok _) old new = new ≡ old ++ events
AppendsEvents events (Err (BadInput at)) old new = ⊥
AppendsEvents events (Err OutOfMemory) old new = (sent : List Event) × (left : List Event) × (events ≡ sent ++ left) × (new ≡ old ++ sent)

abbrev pub PushesEvents : Read (List Event) → Result (Unit {0}) InputFault → List Event → List Event → Type 0
PushesEvents (Ok v) result old new = AppendsEvents v.0 result old new
PushesEvents (Err left) result old new = ⊥

-- the number of events, all of which are there, was read; or the cursor came to a field that is refused
abbrev pub FindsEvents : Result ℕ Short → CursorOf → CursorOf → Type 0
FindsEvents (Ok count) old new = (event_count_at (rest old) ≡ Ok (count, rest new)) × IsOk (events_at count (rest new))
FindsEvents (Err short) old new = (fast_events_at (rest old) ≡ Err (rest new)) × (new.bytes ≡ old.bytes)

-- the events of a packet were appended; or the list is as it was, and the refusal is at the first field that breaks its rule
abbrev pub ReadsFrom : Result (List Event) ℕ → Result (Unit {0}) InputFault → List Event → List Event → Type 0
ReadsFrom (Ok events) result old new = AppendsEvents events result old new
ReadsFrom (Err at) result old new = (result ≡ Err (BadInput at)) × (new ≡ old)

abbrev pub ReadsEvents : List ℕ → Result (Unit {0}) InputFault → List Event → List Event → Type 0
ReadsEvents packet result old new = ReadsFrom (fast_events packet) result old new
