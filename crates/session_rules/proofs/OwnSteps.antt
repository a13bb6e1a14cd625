-- A legal journal is the journal of its own steps; and what a legal entry keeps.
use Rattle.std.proofs.Common.{◌≡◌, ℕ, ◌+◌, List, [], ◌∷◌, ◌++◌, refl, ap, sym, ◌∙◌, Some, None, eq-eqb}
use Rattle.std.specs.Prelude.{⊤, Bool, true, false, ◌&&◌, ◌||◌, not, ◌==◌, is_none, Option, option_map, option_to_list, IsTrue, if◌then◌else◌}
use Rattle.std.proofs.lemmas.Bool.{and_from, and_parts, eqb-true}
use Rattle.draw_ops.specs.declared.shape.Drawing.{Drawing}
use Rattle.draw_ops.specs.Fits.{first_some, broken_rule, slot_misfit, FitsState, Misfit}
use Rattle.draw_ops.specs.Fits.Misfit.{Rule}
use Rattle.input_pdu.specs.declared.event.Event.{Event}
use Rattle.session_rules.specs.declared.entry.Role.{Role}
use Rattle.session_rules.specs.declared.entry.Role.TheVariants.{Owner, Control, View}
use Rattle.session_rules.specs.declared.entry.Entry.{Entry}
use Rattle.session_rules.specs.declared.entry.Entry.TheVariants.{Join, Leave, Give, Input, Draw}
use Rattle.session_rules.specs.Journal.{Head, Row, Reached, Refusal, unless, refusal_of, entry_tests, drawing_tests, misfit_refusal, names_board_slot, holds, may_give, next_of, is_owner_here, role_of, has_role, is_same_role, are_legal_after, reached_after_entry, is_f12, is_entry_in_range, IsLegalJournal}
use Rattle.session_rules.specs.Journal.Refusal.{BadDrawing, NotHolder, Unfit}
use Rattle.session_rules.specs.Steps.{Answer, Play, Effect, play_at_first, entered, effect_of, outcome, outcome_of, entries_from, receiver_of, is_release, input_effect, join_effect, row_role, name_of_role, step_of_entry, steps_of_journal, journal_of_steps, is_new_name, are_names_distinct}
use Rattle.line_text.specs.Words.{is_same_word}
use Rattle.session_rules.specs.Steps.Answer.{Joined, Left, Accepted}
use Rattle.session_rules.specs.Steps.Effect.{Enters, Answers}

-- every test of a list is passed
abbrev pub AllNone : {A : Type 0} → List (Option A) → Type 0
AllNone [] = ⊤
AllNone (o ∷ os) = (o ≡ None) × AllNone os

pub first_some-each : {A : Type 0} (os : List (Option A)) → first_some os ≡ None → AllNone os
first_some-each [] h = tt
first_some-each (None ∷ os) h = (refl, first_some-each os h)
first_some-each (Some x ∷ os) h = absurd (cc h)

pub unless-none : (b : Bool) (r : Refusal) → unless b r ≡ None → b ≡ true
unless-none true r h = refl
unless-none false r h = absurd (cc h)

-- the tests of a legal entry are passed
pub tests-legal : (head : Head) (r : Reached) (e : Entry) → refusal_of head r e ≡ None → AllNone (entry_tests head r e)
tests-legal head r e h = (first_some-each (unless (is_entry_in_range e) Unfit ∷ entry_tests head r e) h).1

-- the numbers of a legal entry are in range
pub is_entry_in_range-legal : (head : Head) (r : Reached) (e : Entry) → refusal_of head r e ≡ None → is_entry_in_range e ≡ true
is_entry_in_range-legal head r e h = unless-none (is_entry_in_range e) Unfit (first_some-each (unless (is_entry_in_range e) Unfit ∷ entry_tests head r e) h).0

fits : (o : Option ℕ) (m : Option Misfit) (own : Bool) → AllNone (option_map BadDrawing o ∷ unless (not own) (BadDrawing 5) ∷ option_map misfit_refusal m ∷ []) → first_some (option_map Rule o ∷ m ∷ []) ≡ None
fits None None own h = refl
fits None (Some m) own h = absurd (cc h.1.1.0)
fits (Some rule) m own h = absurd (cc h.0)

-- a legal drawing fits the state
pub FitsState-legal : (head : Head) (r : Reached) (by : ℕ) (d : Drawing) → refusal_of head r (Draw by d) ≡ None → FitsState head.size r.state.surface d
FitsState-legal head r by d h = fits (broken_rule head.size d) (slot_misfit head.size r.state.surface d.shape) (names_board_slot d.shape)
    (first_some-each (drawing_tests head.size r.state.surface d) (tests-legal head r (Draw by d) h).1.0)

-- a legal drawing is the holder's
pub holds-legal_draw : (head : Head) (r : Reached) (by : ℕ) (d : Drawing) → refusal_of head r (Draw by d) ≡ None → IsTrue (holds r by)
holds-legal_draw head r by d h = unless-none (holds r by) (NotHolder r.holder) (tests-legal head r (Draw by d) h).0

-- a legal input is the holder's
pub holds-legal_input : (head : Head) (r : Reached) (by : ℕ) (e : Event) → refusal_of head r (Input by e) ≡ None → IsTrue (holds r by)
holds-legal_input head r by e h = unless-none (holds r by) (NotHolder r.holder) (tests-legal head r (Input by e) h).0

-- ---- each role's first row is found by its name, where names are distinct

same_name-self : (name : List ℕ) → is_same_word name name ≡ true
same_name-self [] = refl
same_name-self (b ∷ bs) = and_from _ _ (eq-eqb b b refl) (same_name-self bs)

same_role-≡ : (a b : Role) → is_same_role a b ≡ true → a ≡ b
same_role-≡ Owner Owner h = refl
same_role-≡ Owner Control h = absurd (cc h)
same_role-≡ Owner View h = absurd (cc h)
same_role-≡ Control Owner h = absurd (cc h)
same_role-≡ Control Control h = refl
same_role-≡ Control View h = absurd (cc h)
same_role-≡ View Owner h = absurd (cc h)
same_role-≡ View Control h = absurd (cc h)
same_role-≡ View View h = refl

same_name-≡ : (a b : List ℕ) → is_same_word a b ≡ true → a ≡ b
same_name-≡ [] [] h = refl
same_name-≡ [] (y ∷ ys) h = absurd (cc h)
same_name-≡ (x ∷ xs) [] h = absurd (cc h)
same_name-≡ (x ∷ xs) (y ∷ ys) h = let k = and_parts (x == y) (is_same_word xs ys) h in rw (eqb-true x y k.0, same_name-≡ xs ys k.1) refl

found_later : (role : Role) (row : Row) (rows : List Row) (name : List ℕ) → is_new_name row.name rows ≡ true → row_role name rows ≡ Some role → row_role name (row ∷ rows) ≡ Some role
found_later role row rows name new found = by (is_same_word name row.name) refl
  where
    by : (b : Bool) → is_same_word name row.name ≡ b → (if b then Some row.role else row_role name rows) ≡ Some role
    by true eq = let same = ap (λ n. is_none (row_role n rows)) (same_name-≡ name row.name eq) in absurd (cc (same, new, found))
    by false eq = found

found_first : (role : Role) (row : Row) (rows : List Row) → is_same_role role row.role ≡ true → row_role row.name (row ∷ rows) ≡ Some role
found_first role row rows eq = rw (same_name-self row.name) (ap Some (sym (same_role-≡ role row.role eq)))

-- where names are distinct, each role's first row is found by its name
pub row_role-name_of_role : (role : Role) (rows : List Row) → are_names_distinct rows ≡ true → has_role role rows ≡ true → row_role (name_of_role role rows) rows ≡ Some role
row_role-name_of_role role [] d h = absurd (cc h)
row_role-name_of_role role (row ∷ rows) d h =
    let k = and_parts (is_new_name row.name rows) (are_names_distinct rows) d in
    by k.0 (row_role-name_of_role role rows k.1) (is_same_role role row.role) refl h
  where
    by : is_new_name row.name rows ≡ true → (has_role role rows ≡ true → row_role (name_of_role role rows) rows ≡ Some role) → (b : Bool) → is_same_role role row.role ≡ b
        → (b || has_role role rows) ≡ true → row_role (if b then row.name else name_of_role role rows) (row ∷ rows) ≡ Some role
    by new rest true eq k = found_first role row rows eq
    by new rest false eq k = found_later role row rows (name_of_role role rows) new (rest k)

-- ---- the step of a legal entry has that entry as its effect

or_false : (b : Bool) → (b || false) ≡ true → b ≡ true
or_false true h = refl
or_false false h = absurd (cc h)

pub receiver_of-legal : (r : Reached) (by to : ℕ) → may_give r by to ≡ true → receiver_of r by ≡ to
receiver_of-legal r by to h = split (holds r by) (is_owner_here (role_of by r.viewers)) h
  where
    split : (t o : Bool) → ((t && (to == next_of r.viewers by)) || ((o && not t) && (to == by))) ≡ true → (if t then next_of r.viewers by else by) ≡ to
    split true true h = sym (eqb-true _ _ (or_false (to == next_of r.viewers by) h))
    split true false h = sym (eqb-true _ _ (or_false (to == next_of r.viewers by) h))
    split false true h = sym (eqb-true _ _ h)
    split false false h = absurd (cc h)

input_effect-legal : (p : Play) (by : ℕ) (e : Event) → not (is_f12 e) ≡ true → input_effect p by e ≡ Enters (Input by e) Accepted
input_effect-legal p by e h = split (is_f12 e) h
  where
    f12_effect : Effect
    f12_effect = if is_release e then Answers Accepted else Enters (Give by (receiver_of p.reached by)) Accepted

    split : (t : Bool) → not t ≡ true → (if t then f12_effect else Enters (Input by e) Accepted) ≡ Enters (Input by e) Accepted
    split true h = absurd (cc h)
    split false h = refl

effect_of-legal : (head : Head) (p : Play) (e : Entry) → are_names_distinct head.rows ≡ true → refusal_of head p.reached e ≡ None → (a : Answer) × (effect_of head p (step_of_entry head e) ≡ Enters e a)
effect_of-legal head p (Join v role) named h =
    let k = and_parts (has_role role head.rows) (v == p.reached.joins + 1) (unless-none _ Unfit (tests-legal head p.reached (Join v role) h).0) in
    (Joined v, ap (join_effect p) (row_role-name_of_role role head.rows named k.0) ∙ ap (λ n. Enters (Join n role) (Joined n)) (sym (eqb-true v (p.reached.joins + 1) k.1)))
effect_of-legal head p (Leave v) named h = (Left, refl)
effect_of-legal head p (Give by to) named h =
    (Accepted, ap (λ n. Enters (Give by n) Accepted) (receiver_of-legal p.reached by to (unless-none (may_give p.reached by to) (NotHolder p.reached.holder) (tests-legal head p.reached (Give by to) h).0)))
effect_of-legal head p (Input by e) named h = (Accepted, input_effect-legal p by e (unless-none (not (is_f12 e)) Unfit (tests-legal head p.reached (Input by e) h).1.0))
effect_of-legal head p (Draw by d) named h = (Accepted, refl)

abbrev entered_play : Head → Play → Entry → Play
entered_play head p e = record p { reached = reached_after_entry head.size p.reached e }

outcome-legal : (head : Head) (p : Play) (e : Entry) → are_names_distinct head.rows ≡ true → refusal_of head p.reached e ≡ None
    → (a : Answer) × (outcome head p (step_of_entry head e) ≡ record { entry = Some e; answer = a; play = entered_play head p e })
outcome-legal head p e named h = let f = effect_of-legal head p e named h in (f.0, ap (outcome_of head p) f.1 ∙ ap (entered head p e f.0) h)

pub is_none-≡ : {A : Type 0} (o : Option A) → is_none o ≡ true → o ≡ None
is_none-≡ None h = refl
is_none-≡ (Some x) h = absurd (cc h)

entries_from-legal : (head : Head) (p : Play) (j : List Entry) → are_names_distinct head.rows ≡ true → IsTrue (are_legal_after head p.reached j) → entries_from head p (steps_of_journal head j) ≡ j
entries_from-legal head p [] named h = refl
entries_from-legal head p (e ∷ es) named h =
    let k = and_parts (is_none (refusal_of head p.reached e)) (are_legal_after head (reached_after_entry head.size p.reached e) es) h in
    let o = outcome-legal head p e named (is_none-≡ (refusal_of head p.reached e) k.0) in
    ap (λ q. option_to_list q.entry ++ entries_from head q.play (steps_of_journal head es)) o.1
    ∙ ap (λ js. e ∷ js) (entries_from-legal head (entered_play head p e) es named k.1)

-- a legal journal is the journal of its own steps
pub journal_of_steps-own : (head : Head) (j : List Entry) → are_names_distinct head.rows ≡ true → IsLegalJournal head j → journal_of_steps head (steps_of_journal head j) ≡ j
journal_of_steps-own head j named h = entries_from-legal head (play_at_first head.size) j named h
