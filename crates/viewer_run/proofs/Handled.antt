-- An event that is handled in a turn.
use Rattle.std.proofs.Common.{◌≡◌, ℕ, List, [], ◌∷◌, ◌++◌, length, sym, refl, ap, ◌∙◌, subst, arith, append-nil, length-append}
use Rattle.std.specs.Prelude.{Bool, true, false, Option, Some, None, option_to_list, Result, Ok, Err, MatchResult, nat_lt, if◌then◌else◌}
use Rattle.std.proofs.lemmas.Bool.{ltb-true, ltb-false}
use Rattle.wire_num.specs.declared.out_of_memory.OutOfMemory.{OutOfMemory}
use Rattle.input_pdu.specs.declared.event.Event.{Event}
use Rattle.session_rules.specs.declared.entry.Entry.{Entry}
use Rattle.session_rules.specs.Journal.{Head, reached_at}
use Rattle.session_rules.specs.Entering.{entry_of_event}
use Rattle.session_core.specs.SessionModel.{SessionModel, reached_by}
use Rattle.session_core.specs.Outcomes.{GoesOn}
use Rattle.session_core.specs.Faults.{input_answer}
use Rattle.session_core.specs.declared.faults.InputRefusal.{InputRefusal}
use Rattle.session_core.specs.declared.faults.InputRefusal.TheVariants as refusal
use Rattle.grow_lock.specs.Journal.{StartsWith}
use Rattle.serve_rules.specs.Turns.{SessionPass, IsHandled, Idles, place_after}
use Rattle.serve_rules.proofs.Turning.{TurnFacts, turned}
use Rattle.viewer_run.specs.Handling.{HandledHere, SettledAs, place_between}

-- a turn in which the journal stayed
pub idled : (before mid after : SessionPass) (base new : List Entry) → TurnFacts before mid after base new → new ≡ base → Idles before after
idled before mid after base new f is = (base, turned before mid after base [] new f (is ∙ sym (append-nil base)))

-- the place of what was appended is that of the entry
place_is : (base : List Entry) (entry : Option Entry) → place_between (length base) (length (base ++ option_to_list entry)) ≡ place_after base entry
place_is base None = by (nat_lt (length base) (length (base ++ []))) refl
  where
    by : (b : Bool) → nat_lt (length base) (length (base ++ [])) ≡ b → place_between (length base) (length (base ++ [])) ≡ None
    by true e = absurd (omega (arith, ltb-true (length base) (length (base ++ [])) e, length-append base []))
    by false e = ap (λ (t : Bool). if t then Some (length base) else None) e
place_is base (Some entry) = by (nat_lt (length base) (length (base ++ entry ∷ []))) refl
  where
    by : (b : Bool) → nat_lt (length base) (length (base ++ entry ∷ [])) ≡ b → place_between (length base) (length (base ++ entry ∷ [])) ≡ Some (length base)
    by true e = ap (λ (t : Bool). if t then Some (length base) else None) e
    by false e = absurd (omega (arith, ltb-false (length base) (length (base ++ entry ∷ [])) e, length-append base (entry ∷ [])))

-- an event of a viewer who is present
pub settled : (answer : Result (Unit {0}) InputRefusal) (entry : Option Entry) (old new : List Entry) (result : Result (Option ℕ) OutOfMemory)
    → GoesOn (input_answer answer) entry old new → SettledAs answer (length old) (length new) result → HandledHere result entry old new
settled (Ok done) entry old new result h s =
    subst (λ (r : Result (Option ℕ) OutOfMemory). HandledHere r entry old new) (sym s)
    (h, ap (λ (l : List Entry). place_between (length old) (length l)) h ∙ place_is old entry)
settled (Err (refusal.NotHolder holder)) entry old new result h s =
    subst (λ (r : Result (Option ℕ) OutOfMemory). HandledHere r entry old new) (sym s)
    (subst (λ (e : Option Entry). HandledHere (Ok None) e old new) (sym h.1) (h.0 ∙ sym (append-nil old), refl))
settled (Err refusal.JournalFull) entry old new result h s =
    subst (λ (r : Result (Option ℕ) OutOfMemory). HandledHere r entry old new) (sym s)
    (subst (λ (e : Option Entry). HandledHere (Ok None) e old new) (sym h.1) (h.0 ∙ sym (append-nil old), refl))
settled (Err refusal.OutOfMemory) entry old new result h s =
    subst (λ (r : Result (Option ℕ) OutOfMemory). HandledHere r entry old new) (sym s.1) h

-- whatever an event does, the journal goes on
pub goes_on : (entry : Option Entry) (old new : List Entry) (result : Result (Option ℕ) OutOfMemory) → HandledHere result entry old new → StartsWith new old
goes_on entry old new (Ok place) h = (option_to_list entry, h.0)
goes_on entry old new (Err r) h = ([], h ∙ sym (append-nil old))

by_answer : (head : Head) (v : ℕ) (event : Event) (before mid after : SessionPass) (base new : List Entry) (r : Result (Option ℕ) OutOfMemory)
    → TurnFacts before mid after base new → HandledHere r (entry_of_event head v event (reached_at head.size base (length base))) base new
    → MatchResult r (λ place. IsHandled head v event before after place) (λ _. Idles before after)
by_answer head v event before mid after base new (Ok place) f h = record { base = base; turn = turned before mid after base _ new f h.0; place_is = h.1 }
by_answer head v event before mid after base new (Err refusal) f h = (base, turned before mid after base [] new f (h ∙ sym (append-nil base)))

abbrev Here : ℕ → Event → List Entry → Result (Option ℕ) OutOfMemory → Head → List Entry → Type 0
Here v event new r head journal = HandledHere r (entry_of_event head v event (reached_at head.size journal (length journal))) journal new

-- an event at the session that a turn lent
pub handled : (head : Head) (v : ℕ) (event : Event) (before mid after : SessionPass) (base new : List Entry) (r : Result (Option ℕ) OutOfMemory) (old : SessionModel)
    → old.head ≡ head → old.journal ≡ base → TurnFacts before mid after base new
    → HandledHere r (entry_of_event old.head v event (reached_by old)) old.journal new
    → MatchResult r (λ place. IsHandled head v event before after place) (λ _. Idles before after)
handled head v event before mid after base new r old same_head same_journal f h =
    by_answer head v event before mid after base new r f
    (subst (λ (j : List Entry). Here v event new r head j) same_journal (subst (λ (x : Head). Here v event new r x old.journal) same_head h))
