-- An event of a viewer, accepted or refused.
use Rattle.std.proofs.Common.{◌≡◌, ℕ, ◌≤◌, ◌<◌, [], ◌∷◌, refl, ap, ◌∙◌, Some, None, arith, eq-eqb}
use Rattle.std.proofs.lemmas.Bool.Decides.{nat_tests}
use Rattle.std.specs.Prelude.{Bool, true, false, ◌&&◌, ◌==◌, nat_lt, if◌then◌else◌}
use Rattle.draw_ops.specs.Ranges.{is_u32}
use Rattle.draw_ops.specs.Fits.{first_some}
use Rattle.input_pdu.specs.declared.event.Event.{Event}
use Rattle.session_rules.specs.declared.entry.Entry.TheVariants.{Give, Input}
use Rattle.session_rules.specs.Journal.{Head, Reached, refusal_of, room_test, holds, next_of, is_owner_here, role_of, is_f12, is_event_in_range, most_entries}
use Rattle.session_rules.specs.Journal.Refusal.{NotHolder, JournalFull}
use Rattle.session_rules.specs.Steps.{receiver_of}

small_number : (v : ℕ) → v < 4294967296 → is_u32 v ≡ true
small_number v h = grind (arith, nat_tests, h)

pub full : (r : Reached) → 1048576 ≤ r.limited → first_some (room_test r ∷ []) ≡ Some JournalFull
full r h = let t : nat_lt r.limited most_entries ≡ false = grind (arith, nat_tests, h) in rw t refl

pub roomy : (r : Reached) → r.limited < 1048576 → first_some (room_test r ∷ []) ≡ None
roomy r h = let t : nat_lt r.limited most_entries ≡ true = grind (arith, nat_tests, h) in rw t refl

-- ---- events that aren't F12

pub input_not_holder : (head : Head) (r : Reached) (v : ℕ) (e : Event) → v < 4294967296 → is_event_in_range e ≡ true → holds r v ≡ false → refusal_of head r (Input v e) ≡ Some (NotHolder r.holder)
input_not_holder head r v e small range h = rw (small_number v small, range, h) refl

pub input_by_room : (head : Head) (r : Reached) (v : ℕ) (e : Event) → v < 4294967296 → is_event_in_range e ≡ true → holds r v ≡ true → is_f12 e ≡ false
    → refusal_of head r (Input v e) ≡ first_some (room_test r ∷ [])
input_by_room head r v e small range h other = rw (small_number v small, range, h, other) refl

-- ---- F12

either_false : (b : Bool) → (b && false) ≡ false
either_false true = refl
either_false false = refl

pub give_not_holder : (head : Head) (r : Reached) (v : ℕ) → v < 4294967296 → holds r v ≡ false → is_owner_here (role_of v r.viewers) ≡ false
    → refusal_of head r (Give v (receiver_of r v)) ≡ Some (NotHolder r.holder)
give_not_holder head r v small h owner =
    ap (λ w. refusal_of head r (Give v w)) (receives_itself (holds r v) h) ∙ rw (small_number v small, h, owner) refl
  where
    receives_itself : (t : Bool) → t ≡ false → (if t then next_of r.viewers v else v) ≡ v
    receives_itself true k = absurd (cc k)
    receives_itself false k = refl

-- who holds control gives it to the next
pub holder_gives : (head : Head) (r : Reached) (v to : ℕ) → v < 4294967296 → to < 4294967296 → holds r v ≡ true → to ≡ next_of r.viewers v
    → (to ≡ receiver_of r v) × (refusal_of head r (Give v to) ≡ first_some (room_test r ∷ []))
holder_gives head r v to small fits h next =
    let same : (to == next_of r.viewers v) ≡ true = eq-eqb to (next_of r.viewers v) next in
    (next ∙ by (holds r v) h, rw (small_number v small, small_number to fits, h, same) refl)
  where
    by : (t : Bool) → t ≡ true → next_of r.viewers v ≡ (if t then next_of r.viewers v else v)
    by true k = refl
    by false k = absurd (cc k)

-- an owner takes it
pub owner_takes : (head : Head) (r : Reached) (v to : ℕ) → v < 4294967296 → holds r v ≡ false → is_owner_here (role_of v r.viewers) ≡ true → to ≡ v
    → (to ≡ receiver_of r v) × (refusal_of head r (Give v to) ≡ first_some (room_test r ∷ []))
owner_takes head r v to small h owner is =
    let self : (v == v) ≡ true = eq-eqb v v refl in
    (is ∙ by (holds r v) h, ap (λ w. refusal_of head r (Give v w)) is ∙ rw (small_number v small, h, owner, self) refl)
  where
    by : (t : Bool) → t ≡ false → v ≡ (if t then next_of r.viewers v else v)
    by true k = absurd (cc k)
    by false k = refl
