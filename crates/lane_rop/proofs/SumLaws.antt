-- The sum of the products of a code's normal form is its operation, and an operand that isn't needed can be left out of it.
use Rattle.std.proofs.Common.{◌≡◌, ℕ, ◌+◌, ◌-◌, ◌*◌, ◌%◌, ◌^◌, ◌<◌, ◌≤◌, ⊎_elim, List, [], ◌∷◌, get_or, bit_and, false, refl, sym, ap, ◌∙◌, arith}
use Rattle.std.specs.Int.{bit_at}
use Rattle.std.proofs.lemmas.Bool.{cases_lt}
use Rattle.std.proofs.lemmas.Nat.Bits.{bit_at_and, bit_at_xor, bit_at-lt, bit_at-zero, bit_at_ones, bit_at_ones_above, same_from_bits}
use Rattle.rop3_core.specs.Rop3.{ternary_raster, is_pattern_needed, is_source_needed}
use Rattle.rop3_core.specs.Masks.{mask}
use Rattle.rop3_core.proofs.RasterBits.{bit_of_ternary, no_bit_above_ternary}
use Rattle.rop3_core.proofs.WholeWords.{each_bit}
use Rattle.rop3_core.proofs.NeedLaws.{unneeded_pattern, unneeded_source}
use Rattle.lane_rop.specs.Sums.{added, added_bit, sum_bit, sum_of_two, sum_of_three, IsNormalForm, IsSumOf}

bit_of_added : (bits one more i : ℕ) → bit_at (added bits one more) i ≡ added_bit (bit_at bits i) (bit_at one i) (bit_at more i)
bit_of_added bits one more i = bit_at_xor one (bit_and bits more) i ∙ ap (λ z. (bit_at one i + z) % 2) (bit_at_and bits more i)

-- a mask has the bit of its place everywhere
bit_of_mask : (form place i : ℕ) → i < 24 → bit_at (mask form place) i ≡ bit_at form place
bit_of_mask form place i below = each_bit (λ b. bit_at ((2 ^ 24 - 1) * b) i ≡ b) (bit_at-zero i) (bit_at_ones 24 i below) (bit_at form place) (bit_at-lt form place)

bit_above_mask : (form place i : ℕ) → 24 ≤ i → bit_at (mask form place) i ≡ 0
bit_above_mask form place i above = each_bit (λ b. bit_at ((2 ^ 24 - 1) * b) i ≡ 0) (bit_at-zero i) (bit_at_ones_above 24 i above) (bit_at form place) (bit_at-lt form place)

abbrev pub low_words : (ℕ → ℕ) → List ℕ
low_words word = word 0 ∷ word 1 ∷ word 2 ∷ word 3 ∷ []

abbrev pub high_words : (ℕ → ℕ) → List ℕ
high_words word = word 4 ∷ word 5 ∷ word 6 ∷ word 7 ∷ []

bit_of_sum : (word bit : ℕ → ℕ) (p s d i : ℕ) → ((k : ℕ) → bit_at (word k) i ≡ bit k)
    → bit_at (sum_of_three (low_words word) (high_words word) p s d) i ≡ sum_bit bit (bit_at p i) (bit_at s i) (bit_at d i)
bit_of_sum word bit p s d i is =
    bit_of_added p _ _ i
    ∙ (λ j. added_bit (bit_at p i) (two (word 0) (word 1) (word 2) (word 3) j) (two (word 4) (word 5) (word 6) (word 7) j))
    ∙ (λ j. sum_bit (λ k. is k j) (bit_at p i) (bit_at s i) (bit_at d i))
  where
    two : (a b c e : ℕ) → bit_at (added s (added d a b) (added d c e)) i
        ≡ added_bit (bit_at s i) (added_bit (bit_at d i) (bit_at a i) (bit_at b i)) (added_bit (bit_at d i) (bit_at c i) (bit_at e i))
    two a b c e = bit_of_added s (added d a b) (added d c e) i ∙ (λ j. added_bit (bit_at s i) (bit_of_added d a b i j) (bit_of_added d c e i j))

nothing_summed : (p s d : ℕ) → p < 2 → s < 2 → d < 2 → sum_bit (λ _. 0) p s d ≡ 0
nothing_summed p s d ps ss ds = (λ j. added_bit p (two j) (two j)) ∙ nothing p ps
  where
    nothing : (b : ℕ) → b < 2 → added_bit b 0 0 ≡ 0
    nothing b small = each_bit (λ b. added_bit b 0 0 ≡ 0) refl refl b small

    two : added_bit s (added_bit d 0 0) (added_bit d 0 0) ≡ 0
    two = (λ j. added_bit s (nothing d ds j) (nothing d ds j)) ∙ nothing s ss

-- the words of a normal form's products
pub form_is_sum : (code form : ℕ) → IsNormalForm code form → IsSumOf code (low_words (mask form)) (high_words (mask form))
form_is_sum code form is = λ p s d. same_from_bits _ _ (λ i. ⊎_elim (within p s d i) (above p s d i) (cases_lt i 24))
  where
    within : (p s d i : ℕ) → i < 24 → bit_at (sum_of_three (low_words (mask form)) (high_words (mask form)) p s d) i ≡ bit_at (ternary_raster code p s d) i
    within p s d i below =
        bit_of_sum (mask form) (bit_at form) p s d i (λ k. bit_of_mask form k i below)
        ∙ is (bit_at p i) (bit_at s i) (bit_at d i) (bit_at-lt p i) (bit_at-lt s i) (bit_at-lt d i)
        ∙ sym (bit_of_ternary code p s d i below)

    above : (p s d i : ℕ) → 24 ≤ i → bit_at (sum_of_three (low_words (mask form)) (high_words (mask form)) p s d) i ≡ bit_at (ternary_raster code p s d) i
    above p s d i high =
        bit_of_sum (mask form) (λ _. 0) p s d i (λ k. bit_above_mask form k i high)
        ∙ nothing_summed (bit_at p i) (bit_at s i) (bit_at d i) (bit_at-lt p i) (bit_at-lt s i) (bit_at-lt d i)
        ∙ sym (no_bit_above_ternary code p s d i high)

nothing_added : (one more : ℕ) → added 0 one more ≡ one
nothing_added one more = same_from_bits _ _ (λ i.
    bit_of_added 0 one more i ∙ ap (λ z. added_bit z (bit_at one i) (bit_at more i)) (bit_at-zero i)
    ∙ kept (bit_at one i) (bit_at more i) (bit_at-lt one i) (bit_at-lt more i))
  where
    kept : (b c : ℕ) → b < 2 → c < 2 → added_bit 0 b c ≡ b
    kept b c bs cs = each_bit (λ c. added_bit 0 b c ≡ b) (omega (arith, bs)) (omega (arith, bs)) c cs

any_pattern : (code p q s d : ℕ) → is_pattern_needed code ≡ false → ternary_raster code p s d ≡ ternary_raster code q s d
unfolding ternary_raster
any_pattern code p q s d none = unneeded_pattern 24 code p q s d none

any_source : (code p s t d : ℕ) → is_source_needed code ≡ false → ternary_raster code p s d ≡ ternary_raster code p t d
unfolding ternary_raster
any_source code p s t d none = unneeded_source 24 code p s t d none

-- without a pattern the products that have none are left
pub without_pattern : (code : ℕ) (low high : List ℕ) → IsSumOf code low high → is_pattern_needed code ≡ false
    → (p s d : ℕ) → sum_of_two low s d ≡ ternary_raster code p s d
without_pattern code low high sum none p s d = sym (nothing_added (sum_of_two low s d) (sum_of_two high s d)) ∙ sum 0 s d ∙ any_pattern code 0 p s d none

-- and without a source
pub without_source : (code : ℕ) (low high : List ℕ) → IsSumOf code low high → is_source_needed code ≡ false
    → (p s d : ℕ) → sum_of_two (get_or low 0 0 ∷ get_or low 1 0 ∷ get_or high 0 0 ∷ get_or high 1 0 ∷ []) p d ≡ ternary_raster code p s d
without_source code low high sum none p s d =
    sym (λ j. added p (left low j) (left high j)) ∙ sum p 0 d ∙ any_source code p 0 s d none
  where
    left : (words : List ℕ) → sum_of_two words 0 d ≡ added d (get_or words 0 0) (get_or words 1 0)
    left words = nothing_added (added d (get_or words 0 0) (get_or words 1 0)) (added d (get_or words 2 0) (get_or words 3 0))

-- and without both
pub without_both : (code : ℕ) (low high : List ℕ) → IsSumOf code low high → is_pattern_needed code ≡ false → is_source_needed code ≡ false
    → (p s d : ℕ) → added d (get_or low 0 0) (get_or low 1 0) ≡ ternary_raster code p s d
without_both code low high sum no_pattern no_source p s d =
    sym (nothing_added (added d (get_or low 0 0) (get_or low 1 0)) (added d (get_or low 2 0) (get_or low 3 0)))
    ∙ without_pattern code low high sum no_pattern p 0 d ∙ any_source code p 0 s d no_source
