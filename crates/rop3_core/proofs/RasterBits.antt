-- The bits of a raster operation's result.
use Rattle.std.proofs.Common.{◌≡◌, ℕ, zero, suc, ◌+◌, ◌*◌, ◌/◌, ◌%◌, ◌^◌, ◌<◌, ◌≤◌, sym, ap, ◌∙◌, arith}
use Rattle.std.specs.Int.{bit_at}
use Rattle.std.proofs.Math.Nat.{pow-suc}
use Rattle.std.proofs.lemmas.Nat.Bits.{bit_at_lowest, bit_at-suc, bit_at-lt, bit_at-zero}
use Rattle.rop3_core.specs.Rop3.{raster_bit, raster_bits, ternary_raster}

-- a bit and twice a number: the bit stands lowest, and the number's bits above it
lowest_bit : (b n : ℕ) → b < 2 → bit_at (b + 2 * n) 0 ≡ b
lowest_bit b n small = bit_at_lowest (b + 2 * n) ∙ (omega arith)

higher_bit : (b n i : ℕ) → b < 2 → bit_at (b + 2 * n) (suc i) ≡ bit_at n i
higher_bit b n i small = let half : (b + 2 * n) / 2 ≡ n = omega arith in bit_at-suc (b + 2 * n) i ∙ ap (λ x. bit_at x i) half

-- bit i of the operation on so many bits is the code's bit for the bits i
pub bit_of_raster : (n code p s d i : ℕ) → i < n → bit_at (raster_bits n code p s d) i ≡ raster_bit code (bit_at p i) (bit_at s i) (bit_at d i)
bit_of_raster zero code p s d i below = absurd (omega (arith, below))
bit_of_raster (suc n) code p s d zero below =
    lowest_bit (raster_bit code (p % 2) (s % 2) (d % 2)) (raster_bits n code (p / 2) (s / 2) (d / 2)) (bit_at-lt code (4 * (p % 2) + (2 * (s % 2) + d % 2)))
    ∙ (λ j. raster_bit code (sym (bit_at_lowest p) j) (sym (bit_at_lowest s) j) (sym (bit_at_lowest d) j))
bit_of_raster (suc n) code p s d (suc i) below =
    higher_bit (raster_bit code (p % 2) (s % 2) (d % 2)) (raster_bits n code (p / 2) (s / 2) (d / 2)) i (bit_at-lt code (4 * (p % 2) + (2 * (s % 2) + d % 2)))
    ∙ bit_of_raster n code (p / 2) (s / 2) (d / 2) i (omega (arith, below))
    ∙ (λ j. raster_bit code (sym (bit_at-suc p i) j) (sym (bit_at-suc s i) j) (sym (bit_at-suc d i) j))

-- and no bit stands above
pub no_bit_above : (n code p s d i : ℕ) → n ≤ i → bit_at (raster_bits n code p s d) i ≡ 0
no_bit_above zero code p s d i above = bit_at-zero i
no_bit_above (suc n) code p s d zero above = absurd (omega (arith, above))
no_bit_above (suc n) code p s d (suc i) above =
    higher_bit (raster_bit code (p % 2) (s % 2) (d % 2)) (raster_bits n code (p / 2) (s / 2) (d / 2)) i (bit_at-lt code (4 * (p % 2) + (2 * (s % 2) + d % 2)))
    ∙ no_bit_above n code (p / 2) (s / 2) (d / 2) i (omega (arith, above))

-- the result on n bits is below 2 ^ n
pub raster_bits_below : (n code p s d : ℕ) → raster_bits n code p s d < 2 ^ n
raster_bits_below zero code p s d = omega arith
raster_bits_below (suc n) code p s d =
    let rest = raster_bits_below n code (p / 2) (s / 2) (d / 2) in
    let small = bit_at-lt code (4 * (p % 2) + (2 * (s % 2) + d % 2)) in
    omega (arith, rest, small, pow-suc 2 n)

-- bit i of a colour that an operation makes is the code's bit for the bits i, and no bit stands above
pub bit_of_ternary : (code p s d i : ℕ) → i < 24 → bit_at (ternary_raster code p s d) i ≡ raster_bit code (bit_at p i) (bit_at s i) (bit_at d i)
unfolding ternary_raster
bit_of_ternary code p s d i below = bit_of_raster 24 code p s d i below

pub no_bit_above_ternary : (code p s d i : ℕ) → 24 ≤ i → bit_at (ternary_raster code p s d) i ≡ 0
unfolding ternary_raster
no_bit_above_ternary code p s d i above = no_bit_above 24 code p s d i above

-- a result is a colour
pub ternary_raster_below : (code p s d : ℕ) → ternary_raster code p s d < 2 ^ 24
unfolding ternary_raster
ternary_raster_below code p s d = raster_bits_below 24 code p s d
