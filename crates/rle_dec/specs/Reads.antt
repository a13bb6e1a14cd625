-- What the readers' answers stand for.
use Rattle.std.specs.Prelude.{ℕ, List, Option, Result, Ok, Err}
use denote.Ref.{Bor}
use Rattle.wire_num.specs.Field.{Read}

-- a value and slices, as a value and bytes
abbrev pub read_of : {A B : Type 0} → (A → B) → Result (A × Bor (List ℕ)) (Bor (List ℕ)) → Read B
read_of value (Ok v) = Ok (value v.0, v.1.now)
read_of value (Err refused) = Err refused.now

abbrev pub itself : ℕ → ℕ
itself n = n

abbrev pub list_of : Bor (List ℕ) → List ℕ
list_of slice = slice.now

abbrev pub option_of : Option ℕ → Option ℕ
option_of o = o
