-- Tests of numbers and of stretches of whole numbers.
use Rattle.std.proofs.Common.{◌≡◌, ℕ, ◌≤◌, refl, sym, arith}
use Rattle.std.specs.Prelude.{Bool, true, false, ◌&&◌, nat_le, ℤ, pos, ◌+ℤ◌, ◌≤ℤ◌, ◌<ℤ◌, int_le, int_lt}
use Rattle.std.proofs.lemmas.Int.{ints}
use Rattle.std.proofs.lemmas.Bool.{and_from, and_parts}
use Rattle.std.proofs.lemmas.Bool.Decides.{nat_tests}
use Rattle.px_core.specs.Rectangle.{within}

pub int_le_from : (a b : ℤ) → a ≤ℤ b → int_le a b ≡ true
int_le_from a b h = by (int_le a b) refl
  where
    by : (t : Bool) → int_le a b ≡ t → t ≡ true
    by true e = refl
    by false e = absurd (omega (arith, ints, h))

pub int_lt_from : (a b : ℤ) → a <ℤ b → int_lt a b ≡ true
int_lt_from a b h = by (int_lt a b) refl
  where
    by : (t : Bool) → int_lt a b ≡ t → t ≡ true
    by true e = refl
    by false e = absurd (omega (arith, ints, h))

pub nat_le_from : (a b : ℕ) → a ≤ b → nat_le a b ≡ true
nat_le_from a b h = grind (arith, nat_tests, h)

pub within-low : (a : ℤ) (m : ℕ) (z : ℤ) → within a m z ≡ true → a ≤ℤ z
within-low a m z h = let e = (and_parts (int_le a z) (int_lt z (a +ℤ pos m)) h).0 in omega (arith, ints)

pub within-high : (a : ℤ) (m : ℕ) (z : ℤ) → within a m z ≡ true → z <ℤ (a +ℤ pos m)
within-high a m z h = let e = (and_parts (int_le a z) (int_lt z (a +ℤ pos m)) h).1 in omega (arith, ints)

pub within-from : (a : ℤ) (m : ℕ) (z : ℤ) → a ≤ℤ z → z <ℤ (a +ℤ pos m) → within a m z ≡ true
within-from a m z l h = and_from _ _ (int_le_from a z l) (int_lt_from z (a +ℤ pos m) h)

-- two tests are the same where each implies the other
pub same_test : (s t : Bool) → (s ≡ true → t ≡ true) → (t ≡ true → s ≡ true) → s ≡ t
same_test true t f g = sym (f refl)
same_test false true f g = g refl
same_test false false f g = refl

-- ---- tests of columns and of rows, sorted by rectangle

pub by_rectangle : (p q r s : Bool) → ((p && q) && (r && s)) ≡ ((p && r) && (q && s))
by_rectangle true true r s = refl
by_rectangle true false true s = refl
by_rectangle true false false s = refl
by_rectangle false q r s = refl
