-- Worked examples of what becomes of a viewer's events: a click that is handled behind its viewer's own Leave has no entry, and up to the Leave it has one.
use Rattle.std.proofs.Common.{◌≡◌, ℕ, zero, suc, ◌≤◌, List, [], ◌∷◌, arith, refl}
use Rattle.std.specs.Prelude.{Option, Some, None, codes}
use Rattle.input_pdu.specs.declared.event.Event.{Event}
use Rattle.input_pdu.specs.declared.event.Event.TheVariants.{Mouse}
use Rattle.session_rules.specs.declared.entry.Role.TheVariants.{Owner}
use Rattle.session_rules.specs.declared.entry.Entry.{Entry}
use Rattle.session_rules.specs.declared.entry.Entry.TheVariants.{Join, Leave}
use Rattle.session_rules.specs.Journal.{Head}
use Rattle.serve_rules.specs.Events.{Act, entry_at, next_low, HappenFrom, places_of}

-- ann, who owns a session of 64 by 48
abbrev pub ann : Head
ann = record { size = record { w = 64; h = 48 }; rows = record { name = codes "ann"; role = Owner } ∷ [] }

-- she presses the left button
abbrev pub click : Event
click = Mouse 0x9000 20 20

-- the same, found by a turn at so many entries
abbrev pub click_at : ℕ → Act
click_at k = record { event = click; at = k }

-- she comes and goes
abbrev pub unclicked : List Entry
unclicked = Join 1 Owner ∷ Leave 1 ∷ []

next_low_ge : (at : ℕ) (o : Option Entry) → at ≤ next_low at o
next_low_ge at None = omega arith
next_low_ge at (Some e) = omega arith

a_click_behind_the_leave_stands_nowhere : HappenFrom ann 1 unclicked 1 (click_at 2 ∷ []) 2 × (places_of ann 1 unclicked (click_at 2 ∷ []) ≡ [])
a_click_behind_the_leave_stands_nowhere = ((omega arith, tt, omega arith), refl)

-- found at the Leave or before it, it would have to stand in the journal
pub no_click_is_dropped_up_to_the_leave : (low k high : ℕ) → HappenFrom ann 1 unclicked low (click_at k ∷ []) high → 1 ≤ low → high ≤ 1 → ⊥
no_click_is_dropped_up_to_the_leave low zero high h one le = omega (arith, h.0, one)
no_click_is_dropped_up_to_the_leave low (suc zero) high h one le = absurd (cc h.1)
no_click_is_dropped_up_to_the_leave low (suc (suc k)) high h one le = omega (arith, h.2, le, next_low_ge (suc (suc k)) (entry_at ann 1 unclicked (click_at (suc (suc k)))))
