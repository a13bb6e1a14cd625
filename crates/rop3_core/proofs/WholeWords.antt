-- Whole words: a choice between two words bit by bit, and a raster operation as choices between masks.
use Rattle.std.proofs.Common.{◌≡◌, ℕ, zero, suc, ◌+◌, ◌-◌, ◌*◌, ◌%◌, ◌^◌, ◌<◌, ◌≤◌, ⊎_elim, min, refl, sym, ap, ◌∙◌, arith}
use Rattle.std.specs.Int.{bit_at}
use Rattle.std.proofs.lemmas.Bool.{cases_lt}
use Rattle.std.specs.Prelude.{bit_and, bit_xor}
use Rattle.std.proofs.lemmas.Nat.Bits.{bit_at_and, bit_at_xor, bit_at-lt, bit_at-zero, bit_at_ones, bit_at_ones_above, same_from_bits}
use Rattle.rop3_core.specs.Rop3.{raster_bit, ternary_raster}
use Rattle.rop3_core.specs.Masks.{mask, chosen}
use Rattle.rop3_core.proofs.RasterBits.{bit_of_ternary, no_bit_above_ternary}

-- what holds of 0 and of 1 holds of a bit
pub each_bit : (P : ℕ → Type 0) → P 0 → P 1 → (n : ℕ) → n < 2 → P n
each_bit P at_zero at_one zero small = at_zero
each_bit P at_zero at_one (suc zero) small = at_one
each_bit P at_zero at_one (suc (suc n)) small = absurd (omega (arith, small))

abbrev picked : ℕ → ℕ → ℕ → ℕ
picked zero a b = a
picked (suc n) a b = b

mixed_bit : (x a b : ℕ) → x < 2 → a < 2 → b < 2 → (a + min x ((a + b) % 2)) % 2 ≡ picked x a b
mixed_bit x a b xs as' bs = each_bit (λ x. (a + min x ((a + b) % 2)) % 2 ≡ picked x a b)
    (each_bit (λ a. (a + min 0 ((a + b) % 2)) % 2 ≡ a) (each_bit (λ b. (0 + min 0 ((0 + b) % 2)) % 2 ≡ 0) refl refl b bs) (each_bit (λ b. (1 + min 0 ((1 + b) % 2)) % 2 ≡ 1) refl refl b bs) a as')
    (each_bit (λ a. (a + min 1 ((a + b) % 2)) % 2 ≡ b) (each_bit (λ b. (0 + min 1 ((0 + b) % 2)) % 2 ≡ b) refl refl b bs) (each_bit (λ b. (1 + min 1 ((1 + b) % 2)) % 2 ≡ b) refl refl b bs) a as')
    x xs

bit_of_chosen : (x a b i : ℕ) → bit_at (chosen x a b) i ≡ picked (bit_at x i) (bit_at a i) (bit_at b i)
bit_of_chosen x a b i =
    bit_at_xor a (bit_and x (bit_xor a b)) i
    ∙ ap (λ z. (bit_at a i + z) % 2) (bit_at_and x (bit_xor a b) i ∙ ap (λ z. min (bit_at x i) z) (bit_at_xor a b i))
    ∙ mixed_bit (bit_at x i) (bit_at a i) (bit_at b i) (bit_at-lt x i) (bit_at-lt a i) (bit_at-lt b i)

-- a mask has the code's bit everywhere
bit_of_mask : (code place i : ℕ) → i < 24 → bit_at (mask code place) i ≡ bit_at code place
bit_of_mask code place i below = each_bit (λ b. bit_at ((2 ^ 24 - 1) * b) i ≡ b) (bit_at-zero i) (bit_at_ones 24 i below) (bit_at code place) (bit_at-lt code place)

bit_above_mask : (code place i : ℕ) → 24 ≤ i → bit_at (mask code place) i ≡ 0
bit_above_mask code place i above = each_bit (λ b. bit_at ((2 ^ 24 - 1) * b) i ≡ 0) (bit_at-zero i) (bit_at_ones_above 24 i above) (bit_at code place) (bit_at-lt code place)

-- the choices, by the bits of destination, source and pattern in turn, between the bits of the code
abbrev pick_of : (ℕ → ℕ) → ℕ → ℕ → ℕ → ℕ
pick_of bit p s d = picked p (picked s (picked d (bit 0) (bit 1)) (picked d (bit 2) (bit 3))) (picked s (picked d (bit 4) (bit 5)) (picked d (bit 6) (bit 7)))

picks_the_code : (code p s d : ℕ) → p < 2 → s < 2 → d < 2 → pick_of (bit_at code) p s d ≡ raster_bit code p s d
picks_the_code code p s d ps ss ds = each_bit (λ p. pick_of (bit_at code) p s d ≡ raster_bit code p s d)
    (each_bit (λ s. pick_of (bit_at code) 0 s d ≡ raster_bit code 0 s d)
    (each_bit (λ d. pick_of (bit_at code) 0 0 d ≡ raster_bit code 0 0 d) refl refl d ds)
    (each_bit (λ d. pick_of (bit_at code) 0 1 d ≡ raster_bit code 0 1 d) refl refl d ds) s ss)
    (each_bit (λ s. pick_of (bit_at code) 1 s d ≡ raster_bit code 1 s d)
    (each_bit (λ d. pick_of (bit_at code) 1 0 d ≡ raster_bit code 1 0 d) refl refl d ds)
    (each_bit (λ d. pick_of (bit_at code) 1 1 d ≡ raster_bit code 1 1 d) refl refl d ds) s ss)
    p ps

picks_nothing : (p s d : ℕ) → p < 2 → s < 2 → d < 2 → pick_of (λ _. 0) p s d ≡ 0
picks_nothing p s d ps ss ds = each_bit (λ p. pick_of (λ _. 0) p s d ≡ 0)
    (each_bit (λ s. pick_of (λ _. 0) 0 s d ≡ 0) (each_bit (λ d. pick_of (λ _. 0) 0 0 d ≡ 0) refl refl d ds) (each_bit (λ d. pick_of (λ _. 0) 0 1 d ≡ 0) refl refl d ds) s ss)
    (each_bit (λ s. pick_of (λ _. 0) 1 s d ≡ 0) (each_bit (λ d. pick_of (λ _. 0) 1 0 d ≡ 0) refl refl d ds) (each_bit (λ d. pick_of (λ _. 0) 1 1 d ≡ 0) refl refl d ds) s ss)
    p ps

-- the same on whole words
abbrev pub words_of : (ℕ → ℕ) → ℕ → ℕ → ℕ → ℕ
words_of word p s d = chosen p (chosen s (chosen d (word 0) (word 1)) (chosen d (word 2) (word 3))) (chosen s (chosen d (word 4) (word 5)) (chosen d (word 6) (word 7)))

bit_of_words : (word bit : ℕ → ℕ) (p s d i : ℕ) → ((k : ℕ) → bit_at (word k) i ≡ bit k) → bit_at (words_of word p s d) i ≡ pick_of bit (bit_at p i) (bit_at s i) (bit_at d i)
bit_of_words word bit p s d i is =
    bit_of_chosen p _ _ i
    ∙ (λ j. picked (bit_at p i) (two (word 0) (word 1) (word 2) (word 3) j) (two (word 4) (word 5) (word 6) (word 7) j))
    ∙ (λ j. pick_of (λ k. is k j) (bit_at p i) (bit_at s i) (bit_at d i))
  where
    two : (a b c e : ℕ) → bit_at (chosen s (chosen d a b) (chosen d c e)) i
        ≡ picked (bit_at s i) (picked (bit_at d i) (bit_at a i) (bit_at b i)) (picked (bit_at d i) (bit_at c i) (bit_at e i))
    two a b c e = bit_of_chosen s (chosen d a b) (chosen d c e) i ∙ (λ j. picked (bit_at s i) (bit_of_chosen d a b i j) (bit_of_chosen d c e i j))

-- choosing between the masks of a code is its raster operation
pub raster_by_words : (code p s d : ℕ) → words_of (mask code) p s d ≡ ternary_raster code p s d
raster_by_words code p s d = same_from_bits _ _ (λ i. ⊎_elim (within i) (above i) (cases_lt i 24))
  where
    within : (i : ℕ) → i < 24 → bit_at (words_of (mask code) p s d) i ≡ bit_at (ternary_raster code p s d) i
    within i below =
        bit_of_words (mask code) (bit_at code) p s d i (λ k. bit_of_mask code k i below)
        ∙ picks_the_code code (bit_at p i) (bit_at s i) (bit_at d i) (bit_at-lt p i) (bit_at-lt s i) (bit_at-lt d i)
        ∙ sym (bit_of_ternary code p s d i below)

    above : (i : ℕ) → 24 ≤ i → bit_at (words_of (mask code) p s d) i ≡ bit_at (ternary_raster code p s d) i
    above i high =
        bit_of_words (mask code) (λ _. 0) p s d i (λ k. bit_above_mask code k i high)
        ∙ picks_nothing (bit_at p i) (bit_at s i) (bit_at d i) (bit_at-lt p i) (bit_at-lt s i) (bit_at-lt d i)
        ∙ sym (no_bit_above_ternary code p s d i high)

-- the operations that copy or invert do so on the colour's bits
pub mask_bits : (x i : ℕ) → i < 24 → bit_at (bit_and x (2 ^ 24 - 1)) i ≡ bit_at x i
mask_bits x i below = bit_at_and x (2 ^ 24 - 1) i ∙ ap (min (bit_at x i)) (bit_at_ones 24 i below)
    ∙ each_bit (λ b. min b 1 ≡ b) refl refl (bit_at x i) (bit_at-lt x i)

pub mask_above : (x i : ℕ) → 24 ≤ i → bit_at (bit_and x (2 ^ 24 - 1)) i ≡ 0
mask_above x i above = bit_at_and x (2 ^ 24 - 1) i ∙ ap (min (bit_at x i)) (bit_at_ones_above 24 i above)
    ∙ each_bit (λ b. min b 0 ≡ 0) refl refl (bit_at x i) (bit_at-lt x i)

-- a word whose low bits are the code's bits, each for the bits of the operands
pub masked_is_raster : (code p s d x : ℕ) → ((i : ℕ) → bit_at x i ≡ raster_bit code (bit_at p i) (bit_at s i) (bit_at d i))
    → bit_and x (2 ^ 24 - 1) ≡ ternary_raster code p s d
masked_is_raster code p s d x same = same_from_bits _ _ (λ i. ⊎_elim
    (λ (below : i < 24). mask_bits x i below ∙ same i ∙ sym (bit_of_ternary code p s d i below))
    (λ (above : 24 ≤ i). mask_above x i above ∙ sym (no_bit_above_ternary code p s d i above))
    (cases_lt i 24))

abbrev eight : (P : ℕ → ℕ → ℕ → Type 0) → P 0 0 0 → P 0 0 1 → P 0 1 0 → P 0 1 1 → P 1 0 0 → P 1 0 1 → P 1 1 0 → P 1 1 1
    → (p s d : ℕ) → p < 2 → s < 2 → d < 2 → P p s d
eight P a b c e f g h k p s d ps ss ds = each_bit (λ p. P p s d)
    (each_bit (λ s. P 0 s d) (each_bit (P 0 0) a b d ds) (each_bit (P 0 1) c e d ds) s ss)
    (each_bit (λ s. P 1 s d) (each_bit (P 1 0) f g d ds) (each_bit (P 1 1) h k d ds) s ss) p ps

pub copy_is_raster : (p s d : ℕ) → bit_and s (2 ^ 24 - 1) ≡ ternary_raster 0xCC p s d
copy_is_raster p s d = masked_is_raster 0xCC p s d s (λ i. eight (λ p s d. s ≡ raster_bit 0xCC p s d) refl refl refl refl refl refl refl refl
    (bit_at p i) (bit_at s i) (bit_at d i) (bit_at-lt p i) (bit_at-lt s i) (bit_at-lt d i))

pub pattern_is_raster : (p s d : ℕ) → bit_and p (2 ^ 24 - 1) ≡ ternary_raster 0xF0 p s d
pattern_is_raster p s d = masked_is_raster 0xF0 p s d p (λ i. eight (λ p s d. p ≡ raster_bit 0xF0 p s d) refl refl refl refl refl refl refl refl
    (bit_at p i) (bit_at s i) (bit_at d i) (bit_at-lt p i) (bit_at-lt s i) (bit_at-lt d i))

pub invert_is_raster : (p s d : ℕ) → bit_and (bit_xor s d) (2 ^ 24 - 1) ≡ ternary_raster 0x66 p s d
invert_is_raster p s d = masked_is_raster 0x66 p s d (bit_xor s d) (λ i. bit_at_xor s d i ∙ eight (λ p s d. (s + d) % 2 ≡ raster_bit 0x66 p s d) refl refl refl refl refl refl refl refl
    (bit_at p i) (bit_at s i) (bit_at d i) (bit_at-lt p i) (bit_at-lt s i) (bit_at-lt d i))
