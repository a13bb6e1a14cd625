-- The places of events' entries: they ascend, and an Input or a Give by the viewer stands at each.
use Rattle.std.proofs.Common.{◌≡◌, ℕ, ◌≤◌, List, [], ◌∷◌, ◌++◌, refl, Some, None, arith}
use Rattle.std.specs.Prelude.{Option}
use Rattle.session_rules.specs.declared.entry.Entry.{Entry}
use Rattle.session_rules.specs.Journal.{Head, reached_at}
use Rattle.session_rules.specs.Entering.{IsOfEvent}
use Rattle.session_rules.proofs.Joins.{event_is}
use Rattle.serve_rules.specs.Events.{Act, entry_at, HasAt, next_low, HappenFrom, place_if, places_of, Ascend, AreOfEvents}

module _ (head : Head) (v : ℕ) (j : List Entry) where
  ascend_lower : (low' low : ℕ) (ns : List ℕ) (high : ℕ) → low' ≤ low → Ascend low ns high → Ascend low' ns high
  ascend_lower low' low [] high le h = omega (arith, le, h)
  ascend_lower low' low (n ∷ ns) high le h = (omega (arith, le, h.0), h.1)

  -- the place of an entry, if there is one, and then those of later ones
  ascend_next : (low at : ℕ) (o : Option Entry) (ns : List ℕ) (high : ℕ) → low ≤ at → Ascend (next_low at o) ns high → Ascend low (place_if at o ++ ns) high
  ascend_next low at None ns high le h = ascend_lower low at ns high le h
  ascend_next low at (Some e) ns high le h = (le, h)

  pub places_ascend : (low : ℕ) (acts : List Act) (high : ℕ) → HappenFrom head v j low acts high → Ascend low (places_of head v j acts) high
  places_ascend low [] high h = h
  places_ascend low (a ∷ acts) high h = ascend_next low a.at (entry_at head v j a) (places_of head v j acts) high h.0
      (places_ascend (next_low a.at (entry_at head v j a)) acts high h.2)

  of_events_next : (at : ℕ) (o : Option Entry) (ns : List ℕ) → ((e : Entry) → o ≡ Some e → IsOfEvent v e) → HasAt j at o → AreOfEvents v j ns → AreOfEvents v j (place_if at o ++ ns)
  of_events_next at None ns of has h = h
  of_events_next at (Some e) ns of has h = ((e, has, of e refl), h)

  pub places_are_of_events : (low : ℕ) (acts : List Act) (high : ℕ) → HappenFrom head v j low acts high → AreOfEvents v j (places_of head v j acts)
  places_are_of_events low [] high h = tt
  places_are_of_events low (a ∷ acts) high h = of_events_next a.at (entry_at head v j a) (places_of head v j acts)
      (λ e is. event_is head v a.event (reached_at head.size j a.at) e is) h.1
      (places_are_of_events (next_low a.at (entry_at head v j a)) acts high h.2)
