-- The first part of a text.
use Rattle.std.proofs.Common.{◌≡◌, ℕ, ◌+◌, ◌<◌, ◌≤◌, Bool, true, false, cond, List, [], ◌∷◌, length, take, drop, Some, None, position, refl, arith}
use Rattle.std.specs.Prelude.{nat_lt}
use Rattle.std.specs.List.{position_or_len, slice_split}
use Rattle.std.proofs.lemmas.Bool.Decides.{nat_tests}
use Rattle.std.proofs.lemmas.List.Splits.{slice_split_first, slice_split_none}
use Rattle.std.proofs.lemmas.List.Sums.{fails_before_first}
use Rattle.std.proofs.lemmas.List.Elements.{All-from_get_or}

-- what a search has found
found_at : {X : Type 0} (p : X → Bool) (xs : List X) (at : ℕ) (test : Bool) → nat_lt (position_or_len p xs) (length xs) ≡ test →
    Some at ≡ cond test (Some (position_or_len p xs)) None → (position_or_len p xs < length xs) × (position_or_len p xs ≡ at)
found_at p xs at true is e = (grind (arith, nat_tests), cc)
found_at p xs at false is e = cc

none_at : {X : Type 0} (p : X → Bool) (xs : List X) (test : Bool) → nat_lt (position_or_len p xs) (length xs) ≡ test →
    None ≡ cond test (Some (position_or_len p xs)) None → length xs ≤ position_or_len p xs
none_at p xs true is e = cc
none_at p xs false is e = grind (arith, nat_tests)

-- where a separator was found, the first part stands before it and the others after it
pub split_at_found : (p : ℕ → Bool) (xs : List ℕ) (at : ℕ) → Some at ≡ position p xs → slice_split p xs ≡ take at xs ∷ slice_split p (drop (at + 1) xs)
split_at_found p xs at e =
    let found : (position_or_len p xs < length xs) × (position_or_len p xs ≡ at) = found_at p xs at _ refl e in
    let first : slice_split p xs ≡ take (position_or_len p xs) xs ∷ slice_split p (drop (position_or_len p xs + 1) xs) = slice_split_first p xs 0 found.0 in
    rw found.1 at first

-- where none was found, the text is the one part
pub split_at_none : (p : ℕ → Bool) (xs : List ℕ) → None ≡ position p xs → slice_split p xs ≡ xs ∷ []
split_at_none p xs e =
    let none : length xs ≤ position_or_len p xs = none_at p xs _ refl e in
    slice_split_none p xs (All-from_get_or (λ x. p x ≡ false) xs 0 (λ k lt. let inside : k < position_or_len p xs = omega arith in fails_before_first p xs k 0 inside))
