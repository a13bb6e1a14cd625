-- The code that was typed last: of the pressed Unicode codes from 21 to 7E (hexadecimal) in a journal, the last.
use Rattle.std.specs.Prelude.{ℕ, nat_le, Bool, ◌&&◌, not, List, [], ◌∷◌, Option, None, Some, if◌then◌else◌}
use Rattle.input_pdu.specs.declared.event.Event.{Event}
use Rattle.input_pdu.specs.declared.event.Event.TheVariants.{Sync, Scan, Unicode, Mouse, MouseX}
use Rattle.session_rules.specs.declared.entry.Entry.{Entry}
use Rattle.session_rules.specs.declared.entry.Entry.TheVariants.{Join, Leave, Give, Input, Draw}

-- a code that shows: from the exclamation mark to the tilde, so neither the space nor the delete
abbrev pub is_shown_code : ℕ → Bool
is_shown_code code = nat_le 0x21 code && nat_le code 0x7E

-- an event that presses a key of such a code types it; a key that is released and one that is told by its scan code type nothing
abbrev pub typed_by_event : Option ℕ → Event → Option ℕ
typed_by_event before Sync = before
typed_by_event before (Scan code up) = before
typed_by_event before (Unicode code up) = if not up && is_shown_code code then Some code else before
typed_by_event before (Mouse flags x y) = before
typed_by_event before MouseX = before

abbrev pub typed_after : Option ℕ → Entry → Option ℕ
typed_after before (Join v role) = before
typed_after before (Leave v) = before
typed_after before (Give by to) = before
typed_after before (Input by event) = typed_by_event before event
typed_after before (Draw by d) = before

-- what entries leave typed, whoever typed it
abbrev pub typed_by_entries : Option ℕ → List Entry → Option ℕ
typed_by_entries before [] = before
typed_by_entries before (e ∷ es) = typed_by_entries (typed_after before e) es

-- the code that a journal typed last, if any
abbrev pub last_typed : List Entry → Option ℕ
last_typed j = typed_by_entries None j
