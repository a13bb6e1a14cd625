-- Numbers that grow by a digit.
use Rattle.std.proofs.Common.{◌≡◌, ℕ, ◌+◌, ◌*◌, ◌<◌, Bool, true, false, cond, List, [], ◌∷◌, Some, None, ap, refl, arith}
use Rattle.std.specs.Prelude.{nat_le}
use Rattle.std.specs.Bool.{then_some}
use Rattle.std.specs.Char.{is_digit, digit_value}
use Rattle.std.proofs.lemmas.Bool.Decides.{nat_tests}
use Rattle.line_text.specs.Numbers.{digits_behind, at_most}

-- a first digit that was read goes on with those behind it
pub digit_goes_on : (radix n next b : ℕ) (bs : List ℕ) (test : Bool) → is_digit b radix ≡ test →
    Some next ≡ cond test (Some (radix * n + digit_value b)) None → cond test (digits_behind radix (radix * n + digit_value b) bs) None ≡ digits_behind radix next bs
digit_goes_on radix n next b bs true is e = let same : radix * n + digit_value b ≡ next = cc in ap (λ m. digits_behind radix m bs) same
digit_goes_on radix n next b bs false is e = cc

at_most_or_none : (most m : ℕ) (bs : List ℕ) (test : Bool) → at_most most (digits_behind 10 m bs) ≡ None → at_most most (cond test (digits_behind 10 m bs) None) ≡ None
at_most_or_none most m bs true none = none
at_most_or_none most m bs false none = refl

-- a number that is too large stays so
pub too_large : (most n : ℕ) (bs : List ℕ) → most < n → at_most most (digits_behind 10 n bs) ≡ None
too_large most n [] lt = let above : nat_le n most ≡ false = grind (arith, nat_tests) in rw above refl
too_large most n (b ∷ bs) lt = at_most_or_none most (10 * n + digit_value b) bs (is_digit b 10) (too_large most (10 * n + digit_value b) bs (omega arith))

-- a number with one more digit, where that is at most so large
pub number_goes_on : (most n next b : ℕ) (bs : List ℕ) (test : Bool) → is_digit b 10 ≡ test →
    Some next ≡ at_most most (cond test (Some (10 * n + digit_value b)) None) → cond test (digits_behind 10 (10 * n + digit_value b) bs) None ≡ digits_behind 10 next bs
number_goes_on most n next b bs true is e = fits most (10 * n + digit_value b) next bs _ refl e where
  fits : (most m next : ℕ) (bs : List ℕ) (test : Bool) → nat_le m most ≡ test → Some next ≡ then_some test m → digits_behind 10 m bs ≡ digits_behind 10 next bs
  fits most m next bs true is e = ap (λ k. digits_behind 10 k bs) cc
  fits most m next bs false is e = cc
number_goes_on most n next b bs false is e = cc

-- a digit that is none, or makes the number too large, leaves no number
pub number_stops : (most n b : ℕ) (bs : List ℕ) (test : Bool) → is_digit b 10 ≡ test →
    None ≡ at_most most (cond test (Some (10 * n + digit_value b)) None) → at_most most (cond test (digits_behind 10 (10 * n + digit_value b) bs) None) ≡ None
number_stops most n b bs true is e = stops most (10 * n + digit_value b) bs _ refl e where
  stops : (most m : ℕ) (bs : List ℕ) (test : Bool) → nat_le m most ≡ test → None ≡ then_some test m → at_most most (digits_behind 10 m bs) ≡ None
  stops most m bs true is e = cc
  stops most m bs false is e = too_large most m bs (grind (arith, nat_tests))
number_stops most n b bs false is e = refl
