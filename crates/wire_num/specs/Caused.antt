-- Reading field by field, where a refusal has a cause. It carries the bytes from the refused field on.
use Rattle.std.specs.Prelude.{ℕ, List, ◌++◌, Result, Ok, Err}
use Rattle.wire_num.specs.Field.{Read, place_in}

-- what was read and the bytes after it, or the cause and the bytes from the refused field on
abbrev pub Caused : Type 0 → Type 0 → Type 0
Caused C A = Result (A × List ℕ) (C × List ℕ)

-- a field that is refused for this cause
abbrev pub caused : {C A : Type 0} → C → Read A → Caused C A
caused cause (Ok v) = Ok v
caused cause (Err left) = Err (cause, left)

-- a field, and then what reads the bytes after it
abbrev pub then_caused : {C A B : Type 0} → Caused C A → (A → List ℕ → Caused C B) → Caused C B
then_caused (Ok v) f = f v.0 v.1
then_caused (Err e) f = Err e

-- the same field, as a function of what was read
abbrev pub map_caused : {C A B : Type 0} → (A → B) → Caused C A → Caused C B
map_caused f (Ok v) = Ok (f v.0, v.1)
map_caused f (Err e) = Err e

-- what fields in the first bytes give, with the bytes after them
abbrev pub before_caused : {C A : Type 0} → List ℕ → Caused C A → Caused C A
before_caused after (Ok v) = Ok (v.0, after)
before_caused after (Err e) = Err (e.0, e.1 ++ after)

-- what reading a whole text gives: its value, or the fault for the cause at the place of the refused field
abbrev pub placed_caused : {C A E : Type 0} → (C → ℕ → E) → List ℕ → Caused C A → Result A E
placed_caused fault bs (Ok v) = Ok v.0
placed_caused fault bs (Err e) = Err (fault e.0 (place_in bs e.1))
