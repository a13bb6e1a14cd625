-- Worked turns of a viewer: where the entries of its events stand, what its steps announce, and how its read side ends.
use Rattle.std.proofs.Common.{◌≡◌, ◌∷◌, ◌++◌, ◌⊎◌, [], ◌||◌, ℕ, suc, List, length, refl, ap, sym, ◌∙◌, subst, true, false, arith, inl, inr, ⊎_elim}
use Rattle.std.specs.Prelude.{codes, Bool}
use Rattle.input_pdu.specs.declared.event.Event.{Event}
use Rattle.input_pdu.specs.declared.event.Event.TheVariants.{Scan, Mouse}
use Rattle.session_rules.specs.declared.entry.Role.TheVariants.{Owner}
use Rattle.session_rules.specs.declared.entry.Entry.{Entry}
use Rattle.session_rules.specs.declared.entry.Entry.TheVariants.{Join, Leave, Input}
use Rattle.edge_io.specs.Faults.{Rose, last_count}
use Rattle.edge_io.specs.Outside as edge
use Rattle.session_rules.specs.Journal.{Head}
use Rattle.conn_rules.specs.Hearing.{Hearing, heard}
use Rattle.conn_rules.specs.declared.conn_step.ConnStep.{ConnStep}
use Rattle.serve_rules.specs.Turns.{SessionPass}
use Rattle.serve_rules.specs.Events.{Act, HappenFrom, places_of, Ascend, IsWithin, AreOfEvents}
use Rattle.serve_rules.specs.Notices.{Notice, events_in, notice_after_all}
use Rattle.serve_rules.specs.Reading.{ReadEnd, ReadFaults, StopsReading, turns_in, HasTurnsOf}
use Rattle.serve_rules.specs.declared.ends.SideEnd.TheVariants.{Done}
use Rattle.session_rules.specs.Entering.{IsOfEvent}
use Rattle.serve_rules.specs.declared.ends.ConnEnd.TheVariants as end
use Rattle.conn_rules.specs.declared.conn_step.ConnStep.TheVariants as step
use Rattle.conn_rules.specs.declared.stage.Stage.TheVariants as stage
use Rattle.std.specs.declared.option.Option.TheVariants as left

-- ann, who owns a session of 64 by 48
abbrev ann : Head
ann = record { size = record { w = 64; h = 48 }; rows = record { name = codes "ann"; role = Owner } ∷ [] }

abbrev click : Event
click = Mouse 0x9000 20 20

abbrev clicked : List Entry
clicked = Join 1 Owner ∷ Input 1 click ∷ Leave 1 ∷ []

abbrev unclicked : List Entry
unclicked = Join 1 Owner ∷ Leave 1 ∷ []

abbrev at : ℕ → Act
at n = record { event = click; at = n }

a_click_stands_where_its_turn_found_the_end : HappenFrom ann 1 clicked 1 (at 1 ∷ []) 2
a_click_stands_where_its_turn_found_the_end = (omega arith, refl, omega arith)

-- wrong: a place is counted from 1
its_place_is_reported : places_of ann 1 clicked (at 1 ∷ []) ≡ 1 ∷ []
its_place_is_reported = refl

-- wrong: an event may be dropped
a_click_that_was_dropped_stands_nowhere : HappenFrom ann 1 unclicked 1 (at 1 ∷ []) 2 → ⊥
a_click_that_was_dropped_stands_nowhere h = absurd (cc h.1)

-- two clicks aren't one entry
-- wrong: a later turn may find the length at which an entry was appended
one_entry_is_of_one_click : HappenFrom ann 1 clicked 1 (at 1 ∷ at 1 ∷ []) 2 → ⊥
one_entry_is_of_one_click h = omega (arith, h.2.0)

-- wrong: events are handled in any order, and before the Join
an_event_before_the_join_is_none_of_it : HappenFrom ann 1 clicked 1 (at 0 ∷ []) 2 → ⊥
an_event_before_the_join_is_none_of_it h = omega (arith, h.0)

-- wrong: one turn serves for several events
each_event_has_a_turn_of_its_own : IsWithin (1 ∷ 1 ∷ []) (1 ∷ []) → ⊥
each_event_has_a_turn_of_its_own h = ⊎_elim (λ (a : (1 ≡ 1) × ⊥). a.1) (λ (b : ⊥). b) h

two_turns_may_find_the_same : IsWithin (1 ∷ 1 ∷ []) (1 ∷ 1 ∷ [])
two_turns_may_find_the_same = inl (refl, inl (refl, tt))

turns_stay_in_order : IsWithin (2 ∷ 1 ∷ []) (1 ∷ 2 ∷ []) → ⊥
turns_stay_in_order h = ⊎_elim (λ (a : (2 ≡ 1) × IsWithin (1 ∷ []) (2 ∷ [])). absurd (cc a.0))
    (λ (b : ((2 ≡ 2) × ⊥) ⊎ ⊥). ⊎_elim (λ (c : (2 ≡ 2) × ⊥). c.1) (λ (d : ⊥). d) b) h

-- wrong: a place may stand twice
no_place_stands_twice : Ascend 0 (1 ∷ 1 ∷ []) 2 → ⊥
no_place_stands_twice h = omega (arith, h.1.0)

-- a place where another viewer's click stands isn't hers
-- wrong: another viewer's entry may stand at a place (by reading)
another_ones_click_is_none_of_hers : AreOfEvents 2 clicked (1 ∷ []) → ⊥
another_ones_click_is_none_of_hers h = let is : Input 1 click ≡ h.0.0 = cc h.0.1 in let same : 1 ≡ 2 = subst (IsOfEvent 2) (sym is) h.0.2 in omega (arith, same)

abbrev nothing : Notice
nothing = record { bye = false; shutdown = false; quiet = false }

-- wrong: what a client enters isn't among its events
events_among_steps : events_in (step.Packet ∷ step.Event click ∷ step.Event (Scan 0x3B false) ∷ step.Suppress true ∷ step.Bye ∷ [])
    ≡ click ∷ Scan 0x3B false ∷ []
events_among_steps = refl

-- wrong: who ever stopped output stays quiet
the_last_suppress_counts : notice_after_all nothing (step.Suppress true ∷ step.Suppress false ∷ []) ≡ nothing
the_last_suppress_counts = refl

a_stop_after_it_counts : notice_after_all nothing (step.Suppress false ∷ step.Suppress true ∷ step.Packet ∷ []) ≡ record nothing { quiet = true }
a_stop_after_it_counts = refl

-- wrong: a Shutdown Request is a Bye
a_shutdown_is_no_bye : notice_after_all nothing (step.Shutdown ∷ []) ≡ record nothing { shutdown = true }
a_shutdown_is_no_bye = refl

-- wrong: a Bye is a Shutdown Request
a_bye_is_no_shutdown : notice_after_all nothing (step.Bye ∷ []) ≡ record nothing { bye = true }
a_bye_is_no_shutdown = refl

-- where a stream stands, with these bytes there of a packet
abbrev with_part : List ℕ → Hearing
with_part part = record { size = ann.size; stage = stage.Request; place = 0; part = part }

-- an input that has these bytes left, and one that tells none and has failed so often
abbrev holds : List ℕ → edge.Input
holds bytes = record { left = left.Some bytes; faults = 0 }

abbrev failed : ℕ → edge.Input
failed n = record { left = left.None; faults = n }

-- wrong: a client has left within a packet too
nobody_leaves_within_a_packet : ReadEnd false (3 ∷ []) (with_part (3 ∷ [])) nothing (holds (3 ∷ [])) (holds []) (Done end.Left) → ⊥
nobody_leaves_within_a_packet e = absurd (cc (e (λ over. cc over)).1)

-- wrong: a client has left with bytes that weren't read
nobody_leaves_with_bytes_ahead : ReadEnd false [] (with_part []) nothing (holds (3 ∷ [])) (holds (3 ∷ [])) (Done end.Left) → ⊥
nobody_leaves_with_bytes_ahead e = absurd (cc (e (λ over. cc over)).0)

a_bye_leaves_whatever_is_ahead : ReadEnd false [] (with_part []) (record nothing { bye = true }) (holds (3 ∷ [])) (holds (3 ∷ [])) (Done end.Left)
a_bye_leaves_whatever_is_ahead unended = absurd (unended refl)

-- wrong: a stream is truncated between packets too
nothing_is_truncated_between_packets : ReadEnd false [] (with_part []) nothing (holds []) (holds []) (Done end.Truncated) → ⊥
nothing_is_truncated_between_packets e = e.2

-- wrong: a Shutdown Request doesn't end the stream
-- wrong: a stream may be truncated behind a Bye
nothing_is_truncated_behind_a_shutdown : ReadEnd false [] (with_part (3 ∷ [])) (record nothing { shutdown = true }) (holds []) (holds []) (Done end.Truncated) → ⊥
nothing_is_truncated_behind_a_shutdown e = e.0 refl

-- a stream whose first byte is refused
abbrev refused : Hearing
refused = record (with_part []) { stage = stage.Refused 1 0 }

-- wrong: who is refused may be told as truncated
who_is_refused_is_not_truncated : ReadEnd false [] refused nothing (holds []) (holds []) (Done end.Truncated) → ⊥
who_is_refused_is_not_truncated e = e.2

who_is_refused_has_not_left : ReadEnd false [] refused nothing (holds []) (holds []) (Done end.Left) → ⊥
who_is_refused_has_not_left e = absurd (cc (e (λ over. cc over)).1)

-- wrong: a read may fail while the count of faults stands
nothing_fails_while_the_count_stands : ReadEnd false [] (with_part []) nothing (failed 4) (failed 4) (Done end.ReadFault) → ⊥
nothing_fails_while_the_count_stands e = omega (arith, e.1)

-- wrong: who is refused may be read on until a read fails
no_read_fails_of_who_is_refused : ReadFaults refused nothing (failed 4) (failed 5) (Done end.ReadFault) → ⊥
no_read_fails_of_who_is_refused e = e.0

-- wrong: it may then be told that it was refused
who_is_refused_is_told_before_a_read_fails : ReadFaults refused nothing (failed 4) (failed 5) (Done (end.Refused 1 0)) → ⊥
who_is_refused_is_told_before_a_read_fails e = cc e

-- wrong: who has said Bye may be read on until a read fails
no_read_fails_behind_a_bye : ReadFaults (with_part []) (record nothing { bye = true }) (failed 4) (failed 5) (Done end.ReadFault) → ⊥
no_read_fails_behind_a_bye e = e.1 refl

-- wrong: want of memory may hide a read that failed
no_read_fails_at_want_of_memory : ReadFaults (with_part []) nothing (failed 4) (failed 5) (Done end.OutOfMemory) → ⊥
no_read_fails_at_want_of_memory e = cc e

-- a click, a Bye and a word on output take two turns
two_of_three_steps_take_a_turn : turns_in (step.Event click ∷ step.Bye ∷ step.Suppress true ∷ []) ≡ 2
two_of_three_steps_take_a_turn = refl

-- wrong: a turn may come before the read that brings its event, which may bring none
no_turn_comes_before_its_read : (before after : SessionPass) → after.found ≡ before.found ++ 1 ∷ [] → HasTurnsOf [] before after → ⊥
no_turn_comes_before_its_read before after found turns =
    let more : length after.found ≡ suc (length before.found) = ap (λ (l : List ℕ). length l) found ∙ pushed before.found in
    omega (arith, more, turns)
  where
    pushed : (l : List ℕ) → length (l ++ 1 ∷ []) ≡ suc (length l)
    pushed [] = refl
    pushed (x ∷ l) = ap suc (pushed l)

-- whatever follows a Bye, there was one
bye_stays : (xs : List ConnStep) (n : Notice) → n.bye ≡ true → (notice_after_all n xs).bye ≡ true
bye_stays [] n e = e
bye_stays (step.Named name ∷ xs) n e = bye_stays xs n e
bye_stays (step.Ready confirmed ∷ xs) n e = bye_stays xs n e
bye_stays (step.Event event ∷ xs) n e = bye_stays xs n e
bye_stays (step.Refresh area ∷ xs) n e = bye_stays xs n e
bye_stays (step.Suppress stop ∷ xs) n e = bye_stays xs (record n { quiet = stop }) e
bye_stays (step.Shutdown ∷ xs) n e = bye_stays xs (record n { shutdown = true }) e
bye_stays (step.Bye ∷ xs) n e = bye_stays xs (record n { bye = true }) refl
bye_stays (step.Packet ∷ xs) n e = bye_stays xs n e

-- a Bye was there, and a byte was read
-- wrong: more may be read behind a Bye
nothing_is_read_behind_a_bye : StopsReading (step.Bye ∷ []) (with_part []) nothing (3 ∷ []) → ⊥
nothing_is_read_behind_a_bye (inl none) = absurd (cc none)
nothing_is_read_behind_a_bye (inr more) = more.4 (ap (λ (b : Bool). b || (notice_after_all nothing (step.Bye ∷ (heard (with_part []) more.0).steps)).shutdown)
    (bye_stays (heard (with_part []) more.0).steps (record nothing { bye = true }) refl))

a_count_at_its_last_value_may_have_risen : Rose last_count last_count
a_count_at_its_last_value_may_have_risen = (omega arith, omega arith)
