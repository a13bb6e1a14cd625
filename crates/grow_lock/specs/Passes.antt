-- What contracts see of a lock, a pass and a turn.
use Rattle.std.specs.Prelude.{◌≡◌, ℕ, List, [], ◌∷◌, ◌++◌, length, Option, Some}
use Rattle.atomic_table.specs.Seated.{TableId}
use Rattle.grow_lock.specs.Shares.{Share}
use Rattle.grow_lock.specs.declared.notes.Notes.{Notes}

-- which lock it is, the head of its value, and the list of the value that it was made with
pub record LockModel (H E : Type 0) : Type 0 where
  pub id : TableId
  pub head : H
  pub first : List E

-- which lock it is of and that lock's head, the list as far as it has seen it, the lengths that its enters found, the places of the entries that were appended
-- in its turns, and its share of the lock
pub record PassModel (H E : Type 0) : Type 0 where
  pub id : TableId
  pub head : Option H
  pub seen : List E
  pub found : List ℕ
  pub mine : List ℕ
  pub share : Share

-- the value as it is now, the list that `enter` found, and the pass that entered
pub record TurnModel (T H E : Type 0) : Type 0 where
  pub value : T
  pub base : List E
  pub pass : PassModel H E

-- the pass is of this lock
abbrev pub IsPassOf : {H E : Type 0} → LockModel H E → PassModel H E → Type 0
IsPassOf lock pass = (pass.id ≡ lock.id) × (pass.head ≡ Some lock.head)

-- the pass that a seat at this table makes
abbrev pub pass_of : {H E : Type 0} → TableId → Notes H E → PassModel H E
pass_of id notes = record { id = id; head = notes.head; seen = notes.seen; found = notes.found; mine = notes.mine; share = notes.part.share }

-- the pass in a turn that found this list
abbrev pub pass_after_entering : {H E : Type 0} → PassModel H E → List E → PassModel H E
pass_after_entering pass base = record pass { found = pass.found ++ length base ∷ [] }
