-- The tests of dependence decide it: some change of the operand alone changes the result exactly where two bits of the code differ.
use Rattle.std.proofs.Common.{◌≡◌, ◌≢◌, ℕ, zero, suc, ◌/◌, ◌^◌, ◌<◌, ◌≤◌, ◌⊎◌, inl, inr, ⊎_elim, Bool, true, false, ◌||◌, ◌&&◌, not, bit_and, bit_xor, eqb, refl, sym, ap, ◌∙◌, arith, lit<}
use Rattle.std.proofs.lemmas.Bool.Decides.{eqb_tells}
use Rattle.std.proofs.lemmas.Bool.{cases_lt}
use Rattle.std.specs.Int.{bit_at}
use Rattle.std.proofs.lemmas.Nat.Bits.{bit_at-lt, same_from_bits}
use Rattle.rop3_core.specs.Rop3.{raster_bit, raster_bits, ternary_raster, bits_differ, is_pattern_needed, is_source_needed, is_destination_needed, DependsOnPattern, DependsOnSource, DependsOnDestination}
use Rattle.rop3_core.proofs.RasterBits.{bit_of_raster, bit_of_ternary, no_bit_above}
use Rattle.rop3_core.proofs.WholeWords.{each_bit}

true_or_false : (b : Bool) → (b ≡ true) ⊎ (b ≡ false)
true_or_false true = inl refl
true_or_false false = inr refl

either : (a b : Bool) → a || b ≡ true → (a ≡ true) ⊎ (b ≡ true)
either true b h = inl refl
either false b h = inr h

neither : (a b : Bool) → a || b ≡ false → (a ≡ false) × (b ≡ false)
neither true b h = cc
neither false b h = (refl, h)

one_of_four : (a b c d : Bool) → (a || b) || (c || d) ≡ true → (a ≡ true) ⊎ ((b ≡ true) ⊎ ((c ≡ true) ⊎ (d ≡ true)))
one_of_four true b c d h = inl refl
one_of_four false true c d h = inr (inl refl)
one_of_four false false true d h = inr (inr (inl refl))
one_of_four false false false d h = inr (inr (inr h))

none_of_four : (a b c d : Bool) → (a || b) || (c || d) ≡ false → (a ≡ false) × (b ≡ false) × (c ≡ false) × (d ≡ false)
none_of_four a b c d h = let l = (neither (a || b) (c || d) h).0 in let r = (neither (a || b) (c || d) h).1 in
    ((neither a b l).0, (neither a b l).1, (neither c d r).0, (neither c d r).1)

same_bits : (code i j : ℕ) → bits_differ code i j ≡ false → bit_at code i ≡ bit_at code j
same_bits code i j h = ⊎_elim
    (λ (t : (eqb (bit_at code i) (bit_at code j) ≡ true) × (bit_at code i ≡ bit_at code j)). t.1)
    (λ (t : (eqb (bit_at code i) (bit_at code j) ≡ false) × (bit_at code i ≢ bit_at code j)). let e : not false ≡ false = ap not (sym t.0) ∙ h in cc)
    (eqb_tells (bit_at code i) (bit_at code j))

other_bits : (code i j : ℕ) → bits_differ code i j ≡ true → bit_at code i ≢ bit_at code j
other_bits code i j h = ⊎_elim
    (λ (t : (eqb (bit_at code i) (bit_at code j) ≡ true) × (bit_at code i ≡ bit_at code j)). let e : not true ≡ true = ap not (sym t.0) ∙ h in cc)
    (λ (t : (eqb (bit_at code i) (bit_at code j) ≡ false) × (bit_at code i ≢ bit_at code j)). t.1)
    (eqb_tells (bit_at code i) (bit_at code j))

-- operands whose lowest bits lead to different bits of the code give different results
shows : (code p s d q t e : ℕ) → raster_bit code (bit_at p 0) (bit_at s 0) (bit_at d 0) ≢ raster_bit code (bit_at q 0) (bit_at t 0) (bit_at e 0)
    → ternary_raster code p s d ≢ ternary_raster code q t e
shows code p s d q t e differ same = differ (sym (bit_of_ternary code p s d 0 (lit< tt)) ∙ ap (λ x. bit_at x 0) same ∙ bit_of_ternary code q t e 0 (lit< tt))

-- where each bit of the code is that of a change in one operand, the result is too
same_result : (n code p s d q t e : ℕ)
    → ((i : ℕ) → raster_bit code (bit_at p i) (bit_at s i) (bit_at d i) ≡ raster_bit code (bit_at q i) (bit_at t i) (bit_at e i))
    → raster_bits n code p s d ≡ raster_bits n code q t e
same_result n code p s d q t e same = same_from_bits _ _ (λ i. ⊎_elim
    (λ (below : i < n). bit_of_raster n code p s d i below ∙ same i ∙ sym (bit_of_raster n code q t e i below))
    (λ (above : n ≤ i). no_bit_above n code p s d i above ∙ sym (no_bit_above n code q t e i above))
    (cases_lt i n))

-- a code that doesn't need the pattern gives one result for all patterns
pub unneeded_pattern : (n code p q s d : ℕ) → is_pattern_needed code ≡ false → raster_bits n code p s d ≡ raster_bits n code q s d
unneeded_pattern n code p q s d unneeded = same_result n code p s d q s d (λ i. all (bit_at p i) (bit_at q i) (bit_at s i) (bit_at d i) (bit_at-lt p i) (bit_at-lt q i) (bit_at-lt s i) (bit_at-lt d i))
  where
    four : (bits_differ code 0 4 ≡ false) × (bits_differ code 1 5 ≡ false) × (bits_differ code 2 6 ≡ false) × (bits_differ code 3 7 ≡ false)
    four = none_of_four _ _ _ _ unneeded

    change : (s d : ℕ) → s < 2 → d < 2 → raster_bit code 0 s d ≡ raster_bit code 1 s d
    change s d ss ds = each_bit (λ s. raster_bit code 0 s d ≡ raster_bit code 1 s d)
        (each_bit (λ d. raster_bit code 0 0 d ≡ raster_bit code 1 0 d) (same_bits code 0 4 four.0) (same_bits code 1 5 four.1) d ds)
        (each_bit (λ d. raster_bit code 0 1 d ≡ raster_bit code 1 1 d) (same_bits code 2 6 four.2) (same_bits code 3 7 four.3) d ds) s ss

    all : (a b s d : ℕ) → a < 2 → b < 2 → s < 2 → d < 2 → raster_bit code a s d ≡ raster_bit code b s d
    all a b s d as' bs ss ds = each_bit (λ a. raster_bit code a s d ≡ raster_bit code b s d)
        (each_bit (λ b. raster_bit code 0 s d ≡ raster_bit code b s d) refl (change s d ss ds) b bs)
        (each_bit (λ b. raster_bit code 1 s d ≡ raster_bit code b s d) (sym (change s d ss ds)) refl b bs) a as'

-- the same of the source
pub unneeded_source : (n code p s t d : ℕ) → is_source_needed code ≡ false → raster_bits n code p s d ≡ raster_bits n code p t d
unneeded_source n code p s t d unneeded = same_result n code p s d p t d (λ i. all (bit_at s i) (bit_at t i) (bit_at p i) (bit_at d i) (bit_at-lt s i) (bit_at-lt t i) (bit_at-lt p i) (bit_at-lt d i))
  where
    four : (bits_differ code 0 2 ≡ false) × (bits_differ code 1 3 ≡ false) × (bits_differ code 4 6 ≡ false) × (bits_differ code 5 7 ≡ false)
    four = none_of_four _ _ _ _ unneeded

    change : (p d : ℕ) → p < 2 → d < 2 → raster_bit code p 0 d ≡ raster_bit code p 1 d
    change p d ps ds = each_bit (λ p. raster_bit code p 0 d ≡ raster_bit code p 1 d)
        (each_bit (λ d. raster_bit code 0 0 d ≡ raster_bit code 0 1 d) (same_bits code 0 2 four.0) (same_bits code 1 3 four.1) d ds)
        (each_bit (λ d. raster_bit code 1 0 d ≡ raster_bit code 1 1 d) (same_bits code 4 6 four.2) (same_bits code 5 7 four.3) d ds) p ps

    all : (a b p d : ℕ) → a < 2 → b < 2 → p < 2 → d < 2 → raster_bit code p a d ≡ raster_bit code p b d
    all a b p d as' bs ps ds = each_bit (λ a. raster_bit code p a d ≡ raster_bit code p b d)
        (each_bit (λ b. raster_bit code p 0 d ≡ raster_bit code p b d) refl (change p d ps ds) b bs)
        (each_bit (λ b. raster_bit code p 1 d ≡ raster_bit code p b d) (sym (change p d ps ds)) refl b bs) a as'

-- the same of the destination
pub unneeded_destination : (n code p s d e : ℕ) → is_destination_needed code ≡ false → raster_bits n code p s d ≡ raster_bits n code p s e
unneeded_destination n code p s d e unneeded = same_result n code p s d p s e (λ i. all (bit_at d i) (bit_at e i) (bit_at p i) (bit_at s i) (bit_at-lt d i) (bit_at-lt e i) (bit_at-lt p i) (bit_at-lt s i))
  where
    four : (bits_differ code 0 1 ≡ false) × (bits_differ code 2 3 ≡ false) × (bits_differ code 4 5 ≡ false) × (bits_differ code 6 7 ≡ false)
    four = none_of_four _ _ _ _ unneeded

    change : (p s : ℕ) → p < 2 → s < 2 → raster_bit code p s 0 ≡ raster_bit code p s 1
    change p s ps ss = each_bit (λ p. raster_bit code p s 0 ≡ raster_bit code p s 1)
        (each_bit (λ s. raster_bit code 0 s 0 ≡ raster_bit code 0 s 1) (same_bits code 0 1 four.0) (same_bits code 2 3 four.1) s ss)
        (each_bit (λ s. raster_bit code 1 s 0 ≡ raster_bit code 1 s 1) (same_bits code 4 5 four.2) (same_bits code 6 7 four.3) s ss) p ps

    all : (a b p s : ℕ) → a < 2 → b < 2 → p < 2 → s < 2 → raster_bit code p s a ≡ raster_bit code p s b
    all a b p s as' bs ps ss = each_bit (λ a. raster_bit code p s a ≡ raster_bit code p s b)
        (each_bit (λ b. raster_bit code p s 0 ≡ raster_bit code p s b) refl (change p s ps ss) b bs)
        (each_bit (λ b. raster_bit code p s 1 ≡ raster_bit code p s b) (sym (change p s ps ss)) refl b bs) a as'

-- a needed operand is one on which the code depends, and else no change of it shows
pub needed_pattern : (code : ℕ) → is_pattern_needed code ≡ true → DependsOnPattern code
needed_pattern code needed = ⊎_elim (λ h. at 0 0 (lit< tt) (lit< tt) (other_bits code 0 4 h)) (⊎_elim (λ h. at 0 1 (lit< tt) (lit< tt) (other_bits code 1 5 h))
    (⊎_elim (λ h. at 1 0 (lit< tt) (lit< tt) (other_bits code 2 6 h)) (λ h. at 1 1 (lit< tt) (lit< tt) (other_bits code 3 7 h)))) (one_of_four _ _ _ _ needed)
  where
    at : (s d : ℕ) → s < 2 ^ 24 → d < 2 ^ 24 → raster_bit code 0 (bit_at s 0) (bit_at d 0) ≢ raster_bit code 1 (bit_at s 0) (bit_at d 0) → DependsOnPattern code
    at s d ss ds differ = (0, 1, s, d, lit< tt, lit< tt, ss, ds, shows code 0 s d 1 s d differ)

pub needed_source : (code : ℕ) → is_source_needed code ≡ true → DependsOnSource code
needed_source code needed = ⊎_elim (λ h. at 0 0 (lit< tt) (lit< tt) (other_bits code 0 2 h)) (⊎_elim (λ h. at 0 1 (lit< tt) (lit< tt) (other_bits code 1 3 h))
    (⊎_elim (λ h. at 1 0 (lit< tt) (lit< tt) (other_bits code 4 6 h)) (λ h. at 1 1 (lit< tt) (lit< tt) (other_bits code 5 7 h)))) (one_of_four _ _ _ _ needed)
  where
    at : (p d : ℕ) → p < 2 ^ 24 → d < 2 ^ 24 → raster_bit code (bit_at p 0) 0 (bit_at d 0) ≢ raster_bit code (bit_at p 0) 1 (bit_at d 0) → DependsOnSource code
    at p d ps ds differ = (p, 0, 1, d, ps, lit< tt, lit< tt, ds, shows code p 0 d p 1 d differ)

pub needed_destination : (code : ℕ) → is_destination_needed code ≡ true → DependsOnDestination code
needed_destination code needed = ⊎_elim (λ h. at 0 0 (lit< tt) (lit< tt) (other_bits code 0 1 h)) (⊎_elim (λ h. at 0 1 (lit< tt) (lit< tt) (other_bits code 2 3 h))
    (⊎_elim (λ h. at 1 0 (lit< tt) (lit< tt) (other_bits code 4 5 h)) (λ h. at 1 1 (lit< tt) (lit< tt) (other_bits code 6 7 h)))) (one_of_four _ _ _ _ needed)
  where
    at : (p s : ℕ) → p < 2 ^ 24 → s < 2 ^ 24 → raster_bit code (bit_at p 0) (bit_at s 0) 0 ≢ raster_bit code (bit_at p 0) (bit_at s 0) 1 → DependsOnDestination code
    at p s ps ss differ = (p, s, 0, 1, ps, ss, lit< tt, lit< tt, shows code p s 0 p s 1 differ)

-- what holds of all numbers below one, by computing
abbrev all_below : ℕ → (ℕ → Bool) → Bool
all_below zero f = true
all_below (suc n) f = f n && all_below n f

both_true : (a b : Bool) → a && b ≡ true → (a ≡ true) × (b ≡ true)
both_true true b h = (refl, h)
both_true false b h = cc

below_all : (n : ℕ) (f : ℕ → Bool) (k : ℕ) → all_below n f ≡ true → k < n → f k ≡ true
below_all zero f k h below = absurd (omega (arith, below))
below_all (suc n) f k h below = ⊎_elim
    (λ (less : k < n). below_all n f k (both_true (f n) (all_below n f) h).1 less)
    (λ (more : n ≤ k). let is : n ≡ k = omega (arith, more, below) in ap f (sym is) ∙ (both_true (f n) (all_below n f) h).0)
    (cases_lt k n)

same_bool : Bool → Bool → Bool
same_bool true b = b
same_bool false b = not b

same_bool_is : (a b : Bool) → same_bool a b ≡ true → a ≡ b
unfolding same_bool
same_bool_is true true h = refl
same_bool_is true false h = cc
same_bool_is false true h = cc
same_bool_is false false h = refl

abbrev differs_at : ℕ → ℕ → ℕ → Bool
differs_at weight places code = not (eqb (bit_and (bit_xor code (code / weight)) places) 0)

-- the test on whole words is that on the bits, of each code
pub pattern_test : (code : ℕ) → code < 256 → differs_at 16 15 code ≡ is_pattern_needed code
unfolding same_bool
pattern_test code small = same_bool_is _ _ (below_all 256 (λ c. same_bool (differs_at 16 15 c) (is_pattern_needed c)) code refl small)

pub source_test : (code : ℕ) → code < 256 → differs_at 4 51 code ≡ is_source_needed code
unfolding same_bool
source_test code small = same_bool_is _ _ (below_all 256 (λ c. same_bool (differs_at 4 51 c) (is_source_needed c)) code refl small)

pub destination_test : (code : ℕ) → code < 256 → differs_at 2 85 code ≡ is_destination_needed code
unfolding same_bool
destination_test code small = same_bool_is _ _ (below_all 256 (λ c. same_bool (differs_at 2 85 c) (is_destination_needed c)) code refl small)

-- the tests decide dependence
pub pattern_decides : (code : ℕ) → (is_pattern_needed code ≡ true → DependsOnPattern code) × (DependsOnPattern code → is_pattern_needed code ≡ true)
unfolding ternary_raster
pattern_decides code = (
  needed_pattern code,
  λ w. ⊎_elim (λ (yes : is_pattern_needed code ≡ true). yes)
      (λ (none : is_pattern_needed code ≡ false). absurd (w.8 (unneeded_pattern 24 code w.0 w.1 w.2 w.3 none))) (true_or_false (is_pattern_needed code)),
)

pub source_decides : (code : ℕ) → (is_source_needed code ≡ true → DependsOnSource code) × (DependsOnSource code → is_source_needed code ≡ true)
unfolding ternary_raster
source_decides code = (
  needed_source code,
  λ w. ⊎_elim (λ (yes : is_source_needed code ≡ true). yes)
      (λ (none : is_source_needed code ≡ false). absurd (w.8 (unneeded_source 24 code w.0 w.1 w.2 w.3 none))) (true_or_false (is_source_needed code)),
)

pub destination_decides : (code : ℕ) → (is_destination_needed code ≡ true → DependsOnDestination code) × (DependsOnDestination code → is_destination_needed code ≡ true)
unfolding ternary_raster
destination_decides code = (
  needed_destination code,
  λ w. ⊎_elim (λ (yes : is_destination_needed code ≡ true). yes)
      (λ (none : is_destination_needed code ≡ false). absurd (w.8 (unneeded_destination 24 code w.0 w.1 w.2 w.3 none))) (true_or_false (is_destination_needed code)),
)
