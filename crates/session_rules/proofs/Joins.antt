-- Joins and events in a journal: who made which entry, and that nobody joins twice.
use Rattle.std.proofs.Common.{◌≡◌, ◌≢◌, ℕ, zero, suc, ◌+◌, ◌≤◌, ◌<◌, List, [], ◌∷◌, ◌++◌, length, take, refl, ap, sym, ◌∙◌, Some, None, arith, eq-eqb, subst}
use Rattle.std.proofs.lemmas.Bool.{and_parts, eqb-true}
use Rattle.std.specs.Prelude.{IsTrue, Bool, true, false, ◌&&◌, ◌==◌, slice_get, is_none, Option, if◌then◌else◌}
use Rattle.px_core.specs.declared.surface.Size.{Size}
use Rattle.input_pdu.specs.declared.event.Event.{Event}
use Rattle.session_rules.specs.declared.entry.Role.{Role}
use Rattle.session_rules.specs.declared.entry.Entry.{Entry}
use Rattle.session_rules.specs.declared.entry.Entry.TheVariants.{Join, Leave, Give, Input, Draw}
use Rattle.session_rules.specs.Journal.{Head, Reached, Refusal, Viewer, refusal_of, is_f12, has_role, is_present, without_viewer, viewers_after, reached_at, reached_at_first, reached_after, reached_after_entry, are_legal_after, IsLegalJournal}
use Rattle.session_rules.specs.Journal.Refusal.{Unfit}
use Rattle.session_rules.specs.Steps.{row_role, entered, outcome_of, join_effect, is_release, receiver_of, Answer}
use Rattle.session_rules.specs.Steps.Step.{JoinStep, InputStep}
use Rattle.session_rules.specs.Steps.Effect.{Enters, Answers}
use Rattle.session_rules.specs.Steps.Answer.{Joined, Accepted}
use Rattle.session_rules.proofs.OwnSteps.{tests-legal, unless-none, is_none-≡}
use Rattle.session_rules.specs.Entering.{play_of, entry_of_step, entry_if, entry_of_event, IsOfEvent}

-- ---- who made an entry

entered_is : (head : Head) (r : Reached) (e f : Entry) (a : Answer) → (outcome_of head (play_of head r) (Enters e a)).entry ≡ Some f → e ≡ f
entered_is head r e f a h = by (refusal_of head r e) h
  where
    by : (o : Option Refusal) → (entered head (play_of head r) e a o).entry ≡ Some f → e ≡ f
    by None k = cc k
    by (Some why) k = absurd (cc k)

input_is : (head : Head) (v : ℕ) (event : Event) (r : Reached) (f : Entry) (t u : Bool)
    → (outcome_of head (play_of head r) (if t then (if u then Answers Accepted else Enters (Give v (receiver_of r v)) Accepted) else Enters (Input v event) Accepted)).entry ≡ Some f
    → IsOfEvent v f
input_is head v event r f true true h = absurd (cc h)
input_is head v event r f true false h = subst (IsOfEvent v) (entered_is head r (Give v (receiver_of r v)) f Accepted h) refl
input_is head v event r f false u h = subst (IsOfEvent v) (entered_is head r (Input v event) f Accepted h) refl

-- an event's entry is an Input or a Give by its viewer
pub event_is : (head : Head) (v : ℕ) (event : Event) (r : Reached) (f : Entry) → entry_of_event head v event r ≡ Some f → IsOfEvent v f
event_is head v event r f h = by (is_present v r.viewers) h
  where
    by : (t : Bool) → entry_if t (entry_of_step head r (InputStep v event)) ≡ Some f → IsOfEvent v f
    by true k = input_is head v event r f (is_f12 event) (is_release event) k
    by false k = absurd (cc k)

-- a join enters the next number, with the role of the row of its name
pub join_is : (head : Head) (r : Reached) (name : List ℕ) (f : Entry) → entry_of_step head r (JoinStep name) ≡ Some f
    → (role : Role) × (row_role name head.rows ≡ Some role) × (f ≡ Join (r.joins + 1) role)
join_is head r name f h = by (row_role name head.rows) refl h
  where
    by : (o : Option Role) → row_role name head.rows ≡ o → (outcome_of head (play_of head r) (join_effect (play_of head r) o)).entry ≡ Some f
        → (role : Role) × (row_role name head.rows ≡ Some role) × (f ≡ Join (r.joins + 1) role)
    by None eq k = absurd (cc k)
    by (Some role) eq k = (role, eq, sym (entered_is head r (Join (r.joins + 1) role) f (Joined (r.joins + 1)) k))

-- ---- nobody joins twice

-- a legal join has the next number
join_number : (head : Head) (r : Reached) (e : Entry) (v : ℕ) (role : Role) → e ≡ Join v role → is_none (refusal_of head r e) ≡ true → v ≡ r.joins + 1
join_number head r e v role is legal =
    let fits : refusal_of head r (Join v role) ≡ None = subst (λ x. refusal_of head r x ≡ None) is (is_none-≡ (refusal_of head r e) legal) in
    let named = and_parts (has_role role head.rows) (v == r.joins + 1) (unless-none _ Unfit (tests-legal head r (Join v role) fits).0) in
    eqb-true v (r.joins + 1) named.1

-- the number of a later join is above the joins before
later_number : (head : Head) (r : Reached) (es : List Entry) (k v : ℕ) (role : Role) → IsTrue (are_legal_after head r es) → slice_get es k ≡ Some (Join v role) → r.joins < v
later_number head r [] k v role legal h = absurd (cc h)
later_number head r (e ∷ es) zero v role legal h =
    let parts = and_parts (is_none (refusal_of head r e)) (are_legal_after head (reached_after_entry head.size r e) es) legal in
    let is : e ≡ Join v role = cc h in
    omega (arith, join_number head r e v role is parts.0)
later_number head r (e ∷ es) (suc k) v role legal h =
    let parts = and_parts (is_none (refusal_of head r e)) (are_legal_after head (reached_after_entry head.size r e) es) legal in
    omega (arith, later_number head (reached_after_entry head.size r e) es k v role parts.1 h)

same_place : (head : Head) (r : Reached) (es : List Entry) (a b v : ℕ) (role other : Role) → IsTrue (are_legal_after head r es) → slice_get es a ≡ Some (Join v role)
    → slice_get es b ≡ Some (Join v other) → a ≡ b
same_place head r [] a b v role other legal h g = absurd (cc h)
same_place head r (e ∷ es) zero zero v role other legal h g = refl
same_place head r (e ∷ es) zero (suc b) v role other legal h g = absurd (first_again head r e es b v role other legal h g)
  where
    first_again : (head : Head) (r : Reached) (e : Entry) (es : List Entry) (b v : ℕ) (role other : Role) → IsTrue (are_legal_after head r (e ∷ es)) → Some e ≡ Some (Join v role)
        → slice_get es b ≡ Some (Join v other) → ⊥
    first_again head r e es b v role other legal h g =
        let parts = and_parts (is_none (refusal_of head r e)) (are_legal_after head (reached_after_entry head.size r e) es) legal in
        let is : e ≡ Join v role = cc h in
        let next = join_number head r e v role is parts.0 in
        let counted : (reached_after_entry head.size r e).joins ≡ r.joins + 1 = ap (λ x. (reached_after_entry head.size r x).joins) is in
        let later = later_number head (reached_after_entry head.size r e) es b v other parts.1 g in
        omega (arith, next, counted, later)
same_place head r (e ∷ es) (suc a) zero v role other legal h g = sym (same_place_other head r e es a v role other legal h g)
  where
    same_place_other : (head : Head) (r : Reached) (e : Entry) (es : List Entry) (a v : ℕ) (role other : Role) → IsTrue (are_legal_after head r (e ∷ es))
        → slice_get es a ≡ Some (Join v role) → Some e ≡ Some (Join v other) → zero ≡ suc a
    same_place_other head r e es a v role other legal h g =
        let parts = and_parts (is_none (refusal_of head r e)) (are_legal_after head (reached_after_entry head.size r e) es) legal in
        let is : e ≡ Join v other = cc g in
        let next = join_number head r e v other is parts.0 in
        let counted : (reached_after_entry head.size r e).joins ≡ r.joins + 1 = ap (λ x. (reached_after_entry head.size r x).joins) is in
        let later = later_number head (reached_after_entry head.size r e) es a v role parts.1 h in
        absurd (omega (arith, next, counted, later))
same_place head r (e ∷ es) (suc a) (suc b) v role other legal h g =
    let parts = and_parts (is_none (refusal_of head r e)) (are_legal_after head (reached_after_entry head.size r e) es) legal in
    ap suc (same_place head (reached_after_entry head.size r e) es a b v role other parts.1 h g)

-- two Joins of one number stand at one place
pub join_place : (head : Head) (j : List Entry) (a b v : ℕ) (role other : Role) → IsLegalJournal head j → slice_get j a ≡ Some (Join v role) → slice_get j b ≡ Some (Join v other) → a ≡ b
join_place head j a b v role other legal h g = same_place head (reached_at_first head.size) j a b v role other legal h g

-- ---- who left

stays_pushed : (v : ℕ) (xs : List Viewer) (x : Viewer) → is_present v xs ≡ true → is_present v (xs ++ x ∷ []) ≡ true
stays_pushed v [] x h = absurd (cc h)
stays_pushed v (y ∷ ys) x h = by (y.number == v) refl (stays_pushed v ys x)
  where
    by : (t : Bool) → (y.number == v) ≡ t → (is_present v ys ≡ true → is_present v (ys ++ x ∷ []) ≡ true) → is_present v (y ∷ ys ++ x ∷ []) ≡ true
    by true eq again = rw eq refl
    by false eq again = rw eq (again (rw eq at h))

stays_without : (v u : ℕ) (xs : List Viewer) → (u == v) ≡ false → is_present v xs ≡ true → is_present v (without_viewer u xs) ≡ true
stays_without v u [] ne h = absurd (cc h)
stays_without v u (y ∷ ys) ne h = by (y.number == u) (y.number == v) refl refl (stays_without v u ys ne)
  where
    by : (s t : Bool) → (y.number == u) ≡ s → (y.number == v) ≡ t → (is_present v ys ≡ true → is_present v (without_viewer u ys) ≡ true)
        → is_present v (if s then ys else y ∷ without_viewer u ys) ≡ true
    by true true equ eqv again = let same = sym (eqb-true y.number u equ) ∙ eqb-true y.number v eqv in absurd (cc (ne, eq-eqb u v same))
    by true false equ eqv again = rw eqv at h
    by false true equ eqv again = rw eqv refl
    by false false equ eqv again = rw eqv (again (rw eqv at h))

pushed_here : (v : ℕ) (role : Role) (xs : List Viewer) → is_present v (xs ++ record { number = v; role = role } ∷ []) ≡ true
pushed_here v role [] = rw (eq-eqb v v refl) refl
pushed_here v role (y ∷ ys) = by (y.number == v) refl (pushed_here v role ys)
  where
    by : (t : Bool) → (y.number == v) ≡ t → is_present v (ys ++ record { number = v; role = role } ∷ []) ≡ true → is_present v (y ∷ ys ++ record { number = v; role = role } ∷ []) ≡ true
    by true eq again = rw eq refl
    by false eq again = rw eq again

-- a Leave of a viewer among the first n entries
abbrev LeftWithin : ℕ → List Entry → ℕ → Type 0
LeftWithin v es n = (k : ℕ) × (k < n) × (slice_get es k ≡ Some (Leave v))

later_left : (v : ℕ) (e : Entry) (es : List Entry) (n : ℕ) → LeftWithin v es n → LeftWithin v (e ∷ es) (suc n)
later_left v e es n h = (suc h.0, omega (arith, h.1), h.2)

left_within : (size : Size) (v : ℕ) (r : Reached) (es : List Entry) (n : ℕ) → is_present v r.viewers ≡ true → is_present v (reached_after size r (take n es)).viewers ≡ false → LeftWithin v es n
left_within size v r [] zero here gone = absurd (cc (here, gone))
left_within size v r [] (suc n) here gone = absurd (cc (here, gone))
left_within size v r (e ∷ es) zero here gone = absurd (cc (here, gone))
left_within size v r (Join u role ∷ es) (suc n) here gone =
    later_left v (Join u role) es n (left_within size v (reached_after_entry size r (Join u role)) es n (stays_pushed v r.viewers _ here) gone)
left_within size v r (Leave u ∷ es) (suc n) here gone = by (u == v) refl (left_within size v (reached_after_entry size r (Leave u)) es n)
  where
    by : (t : Bool) → (u == v) ≡ t
        → (is_present v (without_viewer u r.viewers) ≡ true → is_present v (reached_after size (reached_after_entry size r (Leave u)) (take n es)).viewers ≡ false → LeftWithin v es n)
        → LeftWithin v (Leave u ∷ es) (suc n)
    by true eq again = (zero, omega arith, ap (λ w. Some (Leave w)) (eqb-true u v eq))
    by false eq again = later_left v (Leave u) es n (again (stays_without v u r.viewers eq here) gone)
left_within size v r (Give a b ∷ es) (suc n) here gone = later_left v (Give a b) es n (left_within size v (reached_after_entry size r (Give a b)) es n here gone)
left_within size v r (Input u event ∷ es) (suc n) here gone = later_left v (Input u event) es n (left_within size v (reached_after_entry size r (Input u event)) es n here gone)
left_within size v r (Draw u d ∷ es) (suc n) here gone = later_left v (Draw u d) es n (left_within size v (reached_after_entry size r (Draw u d)) es n here gone)

left_from : (size : Size) (v : ℕ) (role : Role) (r : Reached) (es : List Entry) (a n : ℕ) → slice_get es a ≡ Some (Join v role) → a < n
    → is_present v (reached_after size r (take n es)).viewers ≡ false → (k : ℕ) × (a < k) × (k < n) × (slice_get es k ≡ Some (Leave v))
left_from size v role r [] a n h below gone = absurd (cc h)
left_from size v role r (e ∷ es) a zero h below gone = absurd (omega (arith, below))
left_from size v role r (e ∷ es) zero (suc n) h below gone =
    let is : e ≡ Join v role = cc h in
    let here : is_present v (reached_after_entry size r e).viewers ≡ true = rw is (pushed_here v role r.viewers) in
    let left = left_within size v (reached_after_entry size r e) es n here gone in
    (suc left.0, omega arith, omega (arith, left.1), left.2)
left_from size v role r (e ∷ es) (suc a) (suc n) h below gone =
    let left = left_from size v role (reached_after_entry size r e) es a n h (omega (arith, below)) gone in
    (suc left.0, omega (arith, left.1), omega (arith, left.2), left.3)

-- who isn't present after its Join has a Leave in between
pub left_between : (size : Size) (j : List Entry) (v : ℕ) (role : Role) (a n : ℕ) → slice_get j a ≡ Some (Join v role) → a < n → is_present v (reached_at size j n).viewers ≡ false
    → (k : ℕ) × (a < k) × (k < n) × (slice_get j k ≡ Some (Leave v))
left_between size j v role a n h below gone = left_from size v role (reached_at_first size) j a n h below gone
