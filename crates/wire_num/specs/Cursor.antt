-- A cursor, seen as a slice and a place in it, and what a call that reads says.
use Rattle.std.specs.Prelude.{◌≡◌, ℕ, List, drop, Result, Ok, Err}
use Rattle.wire_num.specs.declared.short.Short.{Short}
use Rattle.wire_num.specs.Field.{Read}
use Rattle.wire_num.specs.Caused.{Caused}
use Rattle.wire_num.specs.Layout.{Layout, fields_at}

pub record CursorOf : Type 0 where
  pub bytes : List ℕ
  pub at : ℕ

-- the bytes from the place on
abbrev pub rest : CursorOf → List ℕ
rest c = drop c.at c.bytes

-- The call read the fields that stand at the cursor, seen by view, and went past them; or it came to a field that is
-- refused, and the cursor stands there.
abbrev pub ReadsFieldsAs : {X A : Type 0} → (X → A) → (List ℕ → Read A) → Result X Short → CursorOf → CursorOf → Type 0
ReadsFieldsAs view read (Ok v) old new = (read (rest old) ≡ Ok (view v, rest new)) × (new.bytes ≡ old.bytes)
ReadsFieldsAs view read (Err short) old new =
    (read (rest old) ≡ Err (rest new)) × (new.bytes ≡ old.bytes) × (short.at ≡ new.at)

abbrev pub ReadsFields : {A : Type 0} → (List ℕ → Read A) → Result A Short → CursorOf → CursorOf → Type 0
ReadsFields read result old new = ReadsFieldsAs (λ v. v) read result old new

-- The same of one field: where it is refused, the cursor stands where it stood.
abbrev pub ReadsFieldAs : {X A : Type 0} → (X → A) → (List ℕ → Read A) → Result X Short → CursorOf → CursorOf → Type 0
ReadsFieldAs view read (Ok v) old new = (read (rest old) ≡ Ok (view v, rest new)) × (new.bytes ≡ old.bytes)
ReadsFieldAs view read (Err short) old new = (read (rest old) ≡ Err (rest old)) × (new ≡ old) × (short.at ≡ old.at)

abbrev pub ReadsField : {A : Type 0} → (List ℕ → Read A) → Result A Short → CursorOf → CursorOf → Type 0
ReadsField read result old new = ReadsFieldAs (λ v. v) read result old new

-- The call read rows of a table that have no values, whatever the rows after them; or it came to a field of these rows that is
-- refused, and the cursor stands there.
abbrev pub ReadsRows : {X : Type 0} → (Layout → Layout) → Result X Short → CursorOf → CursorOf → Type 0
ReadsRows rows (Ok v) old new =
    ((next : Layout) → fields_at (rows next) (rest old) ≡ fields_at next (rest new)) × (new.bytes ≡ old.bytes)
ReadsRows rows (Err short) old new =
    ((next : Layout) → fields_at (rows next) (rest old) ≡ Err (rest new)) × (new.bytes ≡ old.bytes) × (short.at ≡ new.at)

-- The call read what stands at the cursor, and went past it; or it refused a field for this cause, and the cursor stands there.
abbrev pub ReadsCaused : {C A : Type 0} → (List ℕ → Caused C A) → Result A C → CursorOf → CursorOf → Type 0
ReadsCaused read (Ok v) old new = (read (rest old) ≡ Ok (v, rest new)) × (new.bytes ≡ old.bytes)
ReadsCaused read (Err cause) old new = (read (rest old) ≡ Err (cause, rest new)) × (new.bytes ≡ old.bytes)
