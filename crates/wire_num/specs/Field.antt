-- Reading bytes field by field, from the front. A refusal carries the bytes from the first field that breaks its rule on, so a place is a difference of two
-- lengths.
use Rattle.std.specs.Prelude.{ℕ, zero, suc, ◌-◌, ◌==◌, Bool, true, false, List, [], ◌∷◌, length, Result, Ok, Err}

-- what was read and the bytes after it, or the bytes from the refused field on
abbrev pub Read : Type 0 → Type 0
Read A = Result (A × List ℕ) (List ℕ)

-- goes on with what was made
abbrev pub bind : {A B E : Type 0} → Result A E → (A → Result B E) → Result B E
bind (Ok x) f = f x
bind (Err e) f = Err e

-- a field, and then what reads the bytes after it
abbrev pub then_read : {A B : Type 0} → Read A → (A → List ℕ → Read B) → Read B
then_read (Ok v) f = f v.0 v.1
then_read (Err left) f = Err left

-- the same field, as a function of what was read
abbrev pub map_read : {A B : Type 0} → (A → B) → Read A → Read B
map_read f (Ok v) = Ok (f v.0, v.1)
map_read f (Err left) = Err left

-- a value where the test holds; else a refusal of the field that begins with `whole`
abbrev pub given : {A : Type 0} → Bool → A → List ℕ → List ℕ → Read A
given true v rest whole = Ok (v, rest)
given false v rest whole = Err whole

-- goes on where the test holds; else a refusal of the field that begins with `whole`
abbrev pub kept : {A : Type 0} → Bool → Read A → List ℕ → Read A
kept true read whole = read
kept false read whole = Err whole

-- nothing is left after what was read
abbrev pub ended : {A : Type 0} → A → List ℕ → Read A
ended v [] = Ok (v, [])
ended v (b ∷ bs) = Err (b ∷ bs)

-- a field that the bytes must fill
abbrev pub all_of : {A : Type 0} → Read A → Read A
all_of (Err left) = Err left
all_of (Ok v) = ended v.0 v.1

-- the place of the bytes that are left of a text
abbrev pub place_in : List ℕ → List ℕ → ℕ
place_in whole left = length whole - length left

-- ---- bytes

-- the first n bytes of a field that begins with `whole`
abbrev pub taken : List ℕ → ℕ → List ℕ → Read (List ℕ)
taken whole zero bs = Ok ([], bs)
taken whole (suc n) [] = Err whole
taken whole (suc n) (b ∷ bs) = map_read (λ xs. b ∷ xs) (taken whole n bs)

-- a field of n bytes
abbrev pub bytes_at : ℕ → List ℕ → Read (List ℕ)
bytes_at n bs = taken bs n bs

-- just these bytes, of a field that begins with `whole`
abbrev pub wanted_from : List ℕ → List ℕ → List ℕ → Read (List ℕ)
wanted_from whole [] bs = Ok ([], bs)
wanted_from whole (w ∷ ws) [] = Err whole
wanted_from whole (w ∷ ws) (b ∷ bs) = kept (w == b) (wanted_from whole ws bs) whole

-- a field that has just these bytes
abbrev pub wanted : List ℕ → List ℕ → Read (List ℕ)
wanted ws bs = wanted_from bs ws bs
