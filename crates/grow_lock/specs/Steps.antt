-- What each kind of atomic step on a word tells the seat that takes it: of the step, the seat before, the number found (at a store, the number stored) and the
-- seat after.
use Rattle.std.specs.Prelude.{◌≡◌, ◌≢◌, ℕ, List, [], ◌∷◌, ◌++◌, length, Option, Some, None, ⊤}
use Rattle.atomic_table.specs.Table.{Me, Step, rest}
use Rattle.grow_lock.specs.Journal.{StartsWith, IsDisjoint, added_places, longer}
use Rattle.grow_lock.specs.Notes.{base_of}
use Rattle.grow_lock.specs.declared.notes.Notes.{Notes}
use Rattle.grow_lock.specs.declared.notes.Stage.{Stage}
use Rattle.grow_lock.specs.declared.notes.Stage.TheVariants.{Out, Taken, Measured, Published, Joined}

-- a seat, with the slot where it holds it
abbrev pub Holder : Type 0 → Type 0 → Type 0 → Type 0
Holder T H E = Me (Option T) (Notes H E)

-- the seat is in turn and holds the slot, with a value whose list is that of its stage
abbrev pub HasTaken : {T H E : Type 0} → (T → List E) → Holder T H E → Type 0
HasTaken {T} list seat = (value : T) × (seat.1 ≡ (0, Some value) ∷ []) × (seat.0.stage ≡ Taken (list value))

-- the list of the value in the slot that the seat holds
abbrev pub carried_list : {T E : Type 0} → (T → List E) → List (ℕ × Option T) → List E
carried_list list [] = []
carried_list list ((slot, None) ∷ slots) = []
carried_list list ((slot, Some value) ∷ slots) = list value

-- the longer of what two seats had seen begins with both, and no place was added by both
abbrev pub IsJoinSound : {E : Type 0} → Stage E → Type 0
IsJoinSound (Joined seen other_seen mine other_mine) = StartsWith (longer seen other_seen) seen × StartsWith (longer seen other_seen) other_seen
    × IsDisjoint mine other_mine
IsJoinSound Out = ⊤
IsJoinSound (Taken base) = ⊤
IsJoinSound (Measured base) = ⊤
IsJoinSound Published = ⊤

module _ {T H E : Type 0} where
  -- where the word was 0 the seat is in turn, with the value, whose head is the lock's and whose list begins with what was seen; else nothing changed
  abbrev pub TakesTurn : (T → H) → (T → List E) → Step (Option T) → Holder T H E → ℕ → Holder T H E → Type 0
  TakesTurn head list step before found after =
      (found ≡ 0 → (value : T) × (after.0 ≡ record before.0 { stage = Taken (list value) }) × (after.1 ≡ (0, Some value) ∷ before.1)
      × (before.0.head ≡ Some (head value)) × StartsWith (list value) before.0.seen)
      × (found ≢ 0 → after ≡ before)

  -- the length of the value's list was read, and joins `found`
  abbrev pub ReadsLength : Step (Option T) → Holder T H E → ℕ → Holder T H E → Type 0
  ReadsLength step before found after =
      (found ≡ length (base_of before.0.stage))
      × (after.0 ≡ record before.0 { stage = Measured (base_of before.0.stage); found = before.0.found ++ found ∷ [] })
      × (after.1 ≡ before.1)

  -- the value's list is the journal now: it was seen, and what it has beyond the list that the turn found was added
  abbrev pub PublishesLength : (T → List E) → Step (Option T) → Holder T H E → ℕ → Holder T H E → Type 0
  PublishesLength list step before stored after =
      (after.0 ≡ record before.0 {
        stage = Published;
        seen = carried_list list before.1;
        mine = before.0.mine
            ++ added_places (base_of before.0.stage) (carried_list list before.1);
      })
      × (after.1 ≡ before.1)

  -- the seat is out of turn, and has given the slot back
  abbrev pub FreesTurn : Step (Option T) → Holder T H E → ℕ → Holder T H E → Type 0
  FreesTurn step before stored after = (after.0 ≡ record before.0 { stage = Out }) × (after.1 ≡ rest before.1)

  -- what the join left to be looked up is known
  abbrev pub ReadsJoined : Step (Option T) → Holder T H E → ℕ → Holder T H E → Type 0
  ReadsJoined step before found after = (after.0 ≡ record before.0 { stage = Out }) × (after.1 ≡ before.1) × IsJoinSound before.0.stage
