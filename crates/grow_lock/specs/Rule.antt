-- The rule of the lock's table, which holds between any two atomic steps.
-- Word 0 is 1 while a seat is in turn, word 1 is the length of the journal, and slot 0 has the value while it is at home.
use Rattle.std.specs.Prelude.{◌≡◌, ◌≢◌, ◌⊎◌, ℕ, ◌<◌, ◌≤◌, List, [], ◌∷◌, ◌++◌, length, Option, Some, None, All, Contains, true, ⊤}
use mathlib.Core.Option.{some, none}
use mathlib.Core.Option as maybe
use lib.ListN.{get_elem?}
use Rattle.atomic_table.specs.Table.{State}
use Rattle.grow_lock.specs.Journal.{StartsWith, IsDisjoint}
use Rattle.grow_lock.specs.Shares.{IsHeld, AreSharesApart}
use Rattle.grow_lock.specs.Notes.{spent_notes, is_in_turn}
use Rattle.grow_lock.specs.declared.notes.Notes.{Notes}
use Rattle.grow_lock.specs.declared.notes.Stage.{Stage}
use Rattle.grow_lock.specs.declared.notes.Stage.TheVariants.{Out, Taken, Measured, Published, Joined}

-- the lock's table as plain data
abbrev pub LockTable : Type 0 → Type 0 → Type 0 → Type 0
LockTable T H E = State (Option T) (Notes H E)

-- word 0, from the seat in turn, if there is one
abbrev pub turn_word : Option ℕ → ℕ
turn_word None = 0
turn_word (Some seat) = 1

-- the last number of the list is n
abbrev pub EndsIn : List ℕ → ℕ → Type 0
EndsIn found n = (earlier : List ℕ) × (found ≡ earlier ++ n ∷ [])

module _ {E : Type 0} (journal : List E) (turn : Option ℕ) (seat : ℕ) (seen : List E) (found : List ℕ) where
  -- what a stage means
  -- a seat in turn is the one in turn, and until it publishes the list that it found is the journal; once it has read word 1, that number is its last `found`;
  -- once it has published, it has seen the journal
  -- of two seats that were joined, the journal begins with what each had seen, and no place was added by both
  abbrev pub IsAtStage : Stage E → Type 0
  IsAtStage Out = ⊤
  IsAtStage (Taken base) = (turn ≡ Some seat) × (base ≡ journal)
  IsAtStage (Measured base) = (turn ≡ Some seat) × (base ≡ journal) × EndsIn found (length journal)
  IsAtStage Published = (turn ≡ Some seat) × (seen ≡ journal)
  IsAtStage (Joined seen other_seen mine other_mine) = StartsWith journal seen × StartsWith journal other_seen × IsDisjoint mine other_mine

-- a seat was taken in by another, and its lists are empty
abbrev pub IsSpent : {H E : Type 0} → Notes H E → Type 0
IsSpent notes = notes ≡ spent_notes

-- of two seats: no place is in both, and no part of the lock
abbrev pub AreSeatsApart : {H E : Type 0} → Notes H E → Notes H E → Type 0
AreSeatsApart notes others = IsDisjoint notes.mine others.mine × AreSharesApart notes.part.share others.part.share

-- a seat that isn't spent knows the lock's head and the journal as far as it has seen it, its own places lie in the journal, and it has some part of the lock
pub record IsSeated {H E : Type 0} (lock_head : H) (journal : List E) (turn : Option ℕ) (seat : ℕ) (notes : Notes H E) : Type 0 where
  pub head_is : notes.head ≡ Some lock_head
  pub begins : StartsWith journal notes.seen
  pub below : All (λ n. n < length journal) notes.mine
  pub held : IsHeld notes.part.share
  pub at_stage : IsAtStage journal turn seat notes.seen notes.found notes.stage

module _ {T H E : Type 0} (head : T → H) (list : T → List E) (lock_head : H) where
  -- the value at home has the lock's head and just the journal; while a seat is in turn the slot is out with it
  abbrev pub IsHome : List (maybe.Option (Option T)) → List E → Option ℕ → Type 0
  IsHome homes journal None = (value : T) × (homes ≡ some (Some value) ∷ []) × (head value ≡ lock_head) × (list value ≡ journal)
  IsHome homes journal (Some seat) = homes ≡ none ∷ []

module _ {T H E : Type 0} (head : T → H) (list : T → List E) (lock_head : H) (first : List E) where
  -- the table, where this list is published and this seat, if any, is in turn
  -- the journal begins with the list that the lock was made with, and each place behind that is some seat's own
  pub record IsTable (journal : List E) (turn : Option ℕ) (table : LockTable T H E) : Type 0 where
    pub words_are : table.words ≡ turn_word turn ∷ length journal ∷ []
    pub home : IsHome head list lock_head table.homes journal turn
    pub begins : StartsWith journal first
    pub owned : (n : ℕ) → length first ≤ n → n < length journal
        → (seat : ℕ) × (notes : Notes H E) × (get_elem? table.views seat ≡ some notes) × Contains notes.mine n
    pub longest : (seat : ℕ) × (notes : Notes H E) × (get_elem? table.views seat ≡ some notes) × (notes.seen ≡ journal)
    pub each_seat : (seat : ℕ) (notes : Notes H E) → get_elem? table.views seat ≡ some notes → IsSpent notes ⊎ IsSeated lock_head journal turn seat notes
    pub apart : (seat other : ℕ) (notes others : Notes H E) → get_elem? table.views seat ≡ some notes → get_elem? table.views other ≡ some others
        → seat ≢ other → AreSeatsApart notes others
    pub in_turn : (seat : ℕ) → turn ≡ Some seat → (notes : Notes H E) × (get_elem? table.views seat ≡ some notes) × (is_in_turn notes.stage ≡ true)

  -- there is a journal, and at most one seat in turn, for which the table is as it should be
  abbrev pub IsKept : LockTable T H E → Type 0
  IsKept table = (journal : List E) × (turn : Option ℕ) × IsTable journal turn table
