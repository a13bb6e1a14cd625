-- The body of a slow-path input PDU ([MS-RDPBCGR] 2.2.8.1.1.3), behind the share data header.
use Rattle.std.specs.Prelude.{◌≡◌, ℕ, zero, suc, ◌==◌, Bool, List, [], ◌++◌, drop, Option, Some, None, option_to_list, Result, Ok, Err, IsOk, if◌then◌else◌}
use Rattle.byteorder.specs.Endian.{little_number}
use Rattle.wire_num.specs.FieldValue.{has_bits, placed}
use Rattle.wire_num.specs.Field.{Read, then_read, map_read, bytes_at}
use Rattle.wire_num.specs.Number.{little_at}
use Rattle.wire_num.specs.Cursor.{CursorOf, rest}
use Rattle.wire_num.specs.declared.short.Short.{Short}
use Rattle.input_pdu.specs.declared.event.Event.{Event}
use Rattle.input_pdu.specs.declared.event.Event.TheVariants.{Sync, Scan, Unicode, Mouse, MouseX}
use Rattle.input_pdu.specs.declared.input_fault.InputFault.{InputFault}
use Rattle.input_pdu.specs.declared.input_fault.InputFault.TheVariants.{BadInput, OutOfMemory}

-- ---- one event

-- the number of two bytes behind so many others
abbrev pub number_behind : ℕ → List ℕ → ℕ
number_behind n bs = little_number 2 (drop n bs)

-- KBDFLAGS_RELEASE 0x8000
abbrev pub is_released : List ℕ → Bool
is_released bs = has_bits 0x8000 (little_number 2 bs)

-- the event of a messageType with its slowPathInputData; an event of another type is none
abbrev pub event_of : ℕ → List ℕ → Option Event
event_of kind bs =
    if kind == 0 then Some Sync
    else (if kind == 4 then Some (Scan (number_behind 2 bs) (is_released bs))
    else (if kind == 5 then Some (Unicode (number_behind 2 bs) (is_released bs))
    else (if kind == 0x8001 then Some (Mouse (little_number 2 bs) (number_behind 2 bs) (number_behind 4 bs))
    else (if kind == 0x8002 then Some MouseX else None))))

-- eventTime, messageType, and slowPathInputData, whose six bytes are one field
unfoldable pub event_at : List ℕ → Read (Option Event)
event_at bs =
    then_read (bytes_at 4 bs) (λ _ more. then_read (little_at 2 more) (λ kind more. map_read (event_of kind) (bytes_at 6 more)))

-- ---- a body

-- so many events; those of other types are skipped
abbrev pub events_at : ℕ → List ℕ → Read (List Event)
events_at zero bs = Ok ([], bs)
events_at (suc n) bs = then_read (event_at bs) (λ event more. map_read (λ events. option_to_list event ++ events) (events_at n more))

-- so many events, whatever they are
abbrev pub passed_events_at : ℕ → List ℕ → Read (List ℕ)
passed_events_at n bs = map_read (λ _. []) (events_at n bs)

-- numEvents, and pad2Octets
unfoldable pub event_count_at : List ℕ → Read ℕ
event_count_at bs = then_read (little_at 2 bs) (λ count more. map_read (λ _. count) (bytes_at 2 more))

-- the events of a body, and the bytes after them, which are dropped
abbrev pub body_at : List ℕ → Read (List Event)
body_at bs = then_read (event_count_at bs) (λ count more. events_at count more)

-- the events of a body, or the place of the first field that isn't there
abbrev pub events_of : List ℕ → Result (List Event) ℕ
events_of bs = placed (λ at. at) bs (body_at bs)

-- ---- what a call says that appends the events to a list

-- events that are there were appended, or for want of memory a front of them
abbrev pub Appends : InputFault → List Event → List Event → List Event → Type 0
Appends (BadInput at) events old new = ⊥
Appends OutOfMemory events old new = (sent : List Event) × (left : List Event) × (events ≡ sent ++ left) × (new ≡ old ++ sent)

abbrev pub Pushes : Read (List Event) → Result (Unit {0}) InputFault → List Event → List Event → Type 0
Pushes (Ok v) (Ok _) old new = new ≡ old ++ v.0
Pushes (Ok v) (Err fault) old new = Appends fault v.0 old new
Pushes (Err left) result old new = ⊥

-- the number of events, all of which are there, was read; or the cursor came to a field that isn't there
abbrev pub FindsEvents : Result ℕ Short → CursorOf → CursorOf → Type 0
FindsEvents (Ok count) old new = (event_count_at (rest old) ≡ Ok (count, rest new)) × IsOk (events_at count (rest new))
FindsEvents (Err short) old new = (body_at (rest old) ≡ Err (rest new)) × (new.bytes ≡ old.bytes)

-- the events of a body were appended; or the list is as it was, and the refusal is at the first field that isn't there
abbrev pub ReadsFrom : Result (List Event) ℕ → Result (Unit {0}) InputFault → List Event → List Event → Type 0
ReadsFrom (Ok events) (Ok _) old new = new ≡ old ++ events
ReadsFrom (Ok events) (Err fault) old new = Appends fault events old new
ReadsFrom (Err at) result old new = (result ≡ Err (BadInput at)) × (new ≡ old)

abbrev pub Reads : List ℕ → Result (Unit {0}) InputFault → List Event → List Event → Type 0
Reads bs result old new = ReadsFrom (events_of bs) result old new
