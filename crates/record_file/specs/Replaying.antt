-- What the bytes of a record so far stand for to one who replays them: its head, its legal entries, and the first fault.
use Rattle.std.specs.Prelude.{ℕ, nat_lt, nat_le, List, [], ◌∷◌, length, Option, Some, None, is_none, if◌then◌else◌}
use Rattle.session_rules.specs.declared.entry.Entry.{Entry}
use Rattle.session_rules.specs.Journal.{Head, Reached, reached_at_first, reached_after_entry, refusal_of, picture_after_entries}
use Rattle.record_rules.specs.Records.{End, Recorded, journal_of_record}
use Rattle.record_rules.specs.Records.End.{Unfinished, Faulty}

-- the longest list of entries at the front of which each is legal after those before it
abbrev pub legal_after : Head → Reached → List Entry → List Entry
legal_after head r [] = []
legal_after head r (e ∷ es) = if is_none (refusal_of head r e) then e ∷ legal_after head (reached_after_entry head.size r e) es else []

abbrev pub legal_front : Head → List Entry → List Entry
legal_front head j = legal_after head (reached_at_first head.size) j

-- a field that breaks the form, by its place, or an entry that the law refuses, by its number from 0
pub data Fault : Type 0 where
  BadForm : ℕ → Fault
  BadEntry : ℕ → Fault

-- the head, where it is whole; the entries before the first fault; and that fault
pub record Replayed : Type 0 where
  pub head : Option Head
  pub entries : List Entry
  pub fault : Option Fault

-- a field or an entry that isn't all there is no fault
abbrev pub fault_of_form : End → Option Fault
fault_of_form (Unfinished at) = None
fault_of_form (Faulty at) = Some (BadForm at)

-- an entry's form comes before its law, and each entry before the next: so an entry of right form that isn't legal comes before whatever breaks the form behind it
abbrev pub first_fault : ℕ → ℕ → End → Option Fault
first_fault legal whole end = if nat_lt legal whole then Some (BadEntry legal) else fault_of_form end

abbrev pub replayed_by : Option Head → List Entry → End → Replayed
replayed_by None whole end = record { head = None; entries = []; fault = fault_of_form end }
replayed_by (Some head) whole end = record {
  head = Some head;
  entries = legal_front head whole;
  fault = first_fault (length (legal_front head whole)) (length whole) end;
}

abbrev pub replayed_of : Recorded → Replayed
replayed_of r = replayed_by r.head r.entries r.end

-- what bytes stand for
unfoldable pub replayed : List ℕ → Replayed
replayed bytes = replayed_of (journal_of_record bytes)

-- the picture after so many entries, where there are as many
abbrev pub picture_of : Option Head → List Entry → ℕ → Option (List ℕ)
picture_of None j stop = None
picture_of (Some head) j stop = if nat_le stop (length j) then Some (picture_after_entries head.size j stop) else None

abbrev pub picture_at : ℕ → Replayed → Option (List ℕ)
picture_at stop r = picture_of r.head r.entries stop
