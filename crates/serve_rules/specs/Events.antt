-- What becomes of a viewer's input events, each of which is handled in a turn of its own.
use Rattle.std.specs.Prelude.{◌≡◌, ℕ, ◌≤◌, suc, List, [], ◌∷◌, ◌++◌, length, map, slice_get, Option, Some, None, ⊤, ◌⊎◌}
use Rattle.input_pdu.specs.declared.event.Event.{Event}
use Rattle.session_rules.specs.declared.entry.Entry.{Entry}
use Rattle.session_rules.specs.Journal.{Head, reached_at}
use Rattle.session_rules.specs.Entering.{entry_of_event, IsOfEvent}
use Rattle.grow_lock.specs.Journal.{StartsWith}
use Rattle.serve_rules.specs.Turns.{SessionPass, KeepsShare}

-- an event, and the length of the journal that its turn found
pub record Act : Type 0 where
  pub event : Event
  pub at : ℕ

-- the entry that belongs to an event: the one that it makes after the journal's first entries, as many as its turn found
abbrev pub entry_at : Head → ℕ → List Entry → Act → Option Entry
entry_at head v j act = entry_of_event head v act.event (reached_at head.size j act.at)

-- an entry, if there is one, stands in the journal at a place
abbrev pub HasAt : List Entry → ℕ → Option Entry → Type 0
HasAt j at None = ⊤
HasAt j at (Some entry) = slice_get j at ≡ Some entry

-- the least length that a later turn may find: one more where an entry was appended
abbrev pub next_low : ℕ → Option Entry → ℕ
next_low at None = at
next_low at (Some entry) = suc at

-- events were handled in order from a least length up to a last one: each event's entry, if it has one, stands where its turn found the journal's end, and no
-- later turn found less than what then stood
abbrev pub HappenFrom : Head → ℕ → List Entry → ℕ → List Act → ℕ → Type 0
HappenFrom head v j low [] high = low ≤ high
HappenFrom head v j low (a ∷ acts) high =
    (low ≤ a.at) × HasAt j a.at (entry_at head v j a) × HappenFrom head v j (next_low a.at (entry_at head v j a)) acts high

-- the place of an entry, if there is one
abbrev pub place_if : ℕ → Option Entry → List ℕ
place_if at None = []
place_if at (Some entry) = at ∷ []

-- the places of the events' entries
abbrev pub places_of : Head → ℕ → List Entry → List Act → List ℕ
places_of head v j [] = []
places_of head v j (a ∷ acts) = place_if a.at (entry_at head v j a) ++ places_of head v j acts

-- numbers ascend, from a least one, and each is below a last one
abbrev pub Ascend : ℕ → List ℕ → ℕ → Type 0
Ascend low [] high = low ≤ high
Ascend low (n ∷ ns) high = (low ≤ n) × Ascend (suc n) ns high

-- at each of these places of the journal stands an Input or a Give by a viewer
abbrev pub AreOfEvents : ℕ → List Entry → List ℕ → Type 0
AreOfEvents v j [] = ⊤
AreOfEvents v j (n ∷ ns) = ((entry : Entry) × (slice_get j n ≡ Some entry) × IsOfEvent v entry) × AreOfEvents v j ns

-- the first list's members stand at ascending places of the second
abbrev pub IsWithin : List ℕ → List ℕ → Type 0
IsWithin [] ys = ⊤
IsWithin (x ∷ xs) [] = ⊥
IsWithin (x ∷ xs) (y ∷ ys) = ((x ≡ y) × IsWithin xs ys) ⊎ IsWithin (x ∷ xs) ys

-- events of a viewer were handled in order, each in a turn of its own, between two states of a pass; the places of their entries joined a list of places
pub record Handles (head : Head) (v : ℕ) (events : List Event) (before after : SessionPass) (places_before places_after : List ℕ) : Type 0 where
  pub acts : List Act
  pub of_events : map (λ (a : Act). a.event) acts ≡ events
  pub grows : StartsWith after.seen before.seen
  pub high : ℕ
  pub happen : HappenFrom head v after.seen (length before.seen) acts high
  pub within_seen : high ≤ length after.seen
  pub more_found : List ℕ
  pub found : after.found ≡ before.found ++ more_found
  pub in_found : IsWithin (map (λ (a : Act). a.at) acts) more_found
  pub mine : after.mine ≡ before.mine ++ places_of head v after.seen acts
  pub share : KeepsShare before after
  pub places : places_after ≡ places_before ++ places_of head v after.seen acts
