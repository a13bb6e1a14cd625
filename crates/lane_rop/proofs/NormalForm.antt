-- The normal form of each of the 256 codes, by computing.
use Rattle.std.proofs.Common.{◌≡◌, ℕ, zero, suc, ◌*◌, ◌%◌, ◌<◌, ◌≤◌, ⊎_elim, Bool, true, false, ◌&&◌, eqb, bit_and, bit_xor, refl, sym, ap, ◌∙◌, arith}
use Rattle.std.proofs.lemmas.Bool.{cases_lt, eqb-true}
use Rattle.std.specs.Int.{bit_at}
use Rattle.rop3_core.specs.Rop3.{raster_bit}
use Rattle.lane_rop.specs.Sums.{sum_bit, IsNormalForm}

-- what holds of all numbers below one
abbrev all_below : ℕ → (ℕ → Bool) → Bool
all_below zero f = true
all_below (suc n) f = f n && all_below n f

both_true : (a b : Bool) → a && b ≡ true → (a ≡ true) × (b ≡ true)
both_true true b h = (refl, h)
both_true false b h = cc

below_all : (n : ℕ) (f : ℕ → Bool) (k : ℕ) → all_below n f ≡ true → k < n → f k ≡ true
below_all zero f k h below = absurd (omega (arith, below))
below_all (suc n) f k h below = ⊎_elim
    (λ (less : k < n). below_all n f k (both_true (f n) (all_below n f) h).1 less)
    (λ (more : n ≤ k). let is : n ≡ k = omega (arith, more, below) in ap f (sym is) ∙ (both_true (f n) (all_below n f) h).0)
    (cases_lt k n)

-- each bit at these places added to the one so much higher
abbrev added_up : ℕ → ℕ → ℕ → ℕ
added_up places weight code = bit_xor code (bit_and code places * weight % 256)

abbrev form_of : ℕ → ℕ
form_of code = added_up 15 16 (added_up 51 4 (added_up 85 2 code))

abbrev is_formed : ℕ → ℕ → ℕ → ℕ → Bool
is_formed code p s d = eqb (sum_bit (bit_at (form_of code)) p s d) (raster_bit code p s d)

pub form_is_normal : (code : ℕ) → code < 256 → IsNormalForm code (form_of code)
form_is_normal code small = λ p s d ps ss ds. eqb-true _ _
    (below_all 2 (λ d. is_formed code p s d) d
    (below_all 2 (λ s. all_below 2 (λ d. is_formed code p s d)) s
    (below_all 2 (λ p. all_below 2 (λ s. all_below 2 (λ d. is_formed code p s d))) p
    (below_all 256 (λ code. all_below 2 (λ p. all_below 2 (λ s. all_below 2 (λ d. is_formed code p s d)))) code refl small) ps) ss) ds)
