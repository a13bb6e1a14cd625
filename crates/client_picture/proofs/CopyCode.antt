-- The code that copies its source, and the operation on 16 bits.
use Rattle.std.proofs.Common.{◌≡◌, ◌<◌, ◌+◌, ◌*◌, ◌/◌, ◌%◌, ◌^◌, ℕ, zero, suc, refl, ap, sym, ◌∙◌, arith, Some, None}
use Rattle.std.specs.Prelude.{Option, IfSome}
use Rattle.std.proofs.Math.Arith.{mod-mul}
use Rattle.std.proofs.lemmas.Nat.{pow_pos}
use Rattle.std.proofs.lemmas.Nat.Bits.{bit_at-lt}
use Rattle.rop3_core.specs.Rop3.{raster_bit, raster_bits, ternary_raster}
use Rattle.px_core.specs.declared.depth.Depth.TheVariants.{Bits24, Bits16}
use Rattle.draw_ops.specs.Depths.{raster_at, maybe_raster_at}
use Rattle.rop3_core.proofs.RasterBits.{ternary_raster_below}
use Rattle.client_picture.specs.Sources.{copied}

bit_copied : (p s d : ℕ) → p < 2 → s < 2 → d < 2 → raster_bit 204 p s d ≡ s
bit_copied zero zero zero a b c = refl
bit_copied zero zero (suc zero) a b c = refl
bit_copied zero (suc zero) zero a b c = refl
bit_copied zero (suc zero) (suc zero) a b c = refl
bit_copied (suc zero) zero zero a b c = refl
bit_copied (suc zero) zero (suc zero) a b c = refl
bit_copied (suc zero) (suc zero) zero a b c = refl
bit_copied (suc zero) (suc zero) (suc zero) a b c = refl
bit_copied (suc (suc p)) s d a b c = absurd (omega arith)
bit_copied zero (suc (suc s)) d a b c = absurd (omega arith)
bit_copied (suc zero) (suc (suc s)) d a b c = absurd (omega arith)
bit_copied zero zero (suc (suc d)) a b c = absurd (omega arith)
bit_copied zero (suc zero) (suc (suc d)) a b c = absurd (omega arith)
bit_copied (suc zero) zero (suc (suc d)) a b c = absurd (omega arith)
bit_copied (suc zero) (suc zero) (suc (suc d)) a b c = absurd (omega arith)

bits_copied : (n p s d : ℕ) → raster_bits n 204 p s d ≡ s % 2 ^ n
bits_copied zero p s d = omega arith
bits_copied (suc n) p s d =
    let low : raster_bit 204 (p % 2) (s % 2) (d % 2) ≡ s % 2 = bit_copied (p % 2) (s % 2) (d % 2) (omega arith) (omega arith) (omega arith) in
    let high : raster_bits n 204 (p / 2) (s / 2) (d / 2) ≡ s / 2 % 2 ^ n = bits_copied n (p / 2) (s / 2) (d / 2) in
    let some : 0 < 2 ^ n = pow_pos n in
    let whole : s % (2 ^ n * 2) ≡ (s / 2 % 2 ^ n) * 2 + s % 2 = mod-mul s some (omega arith) in
    let power : 2 ^ suc n ≡ 2 ^ n * 2 = omega arith in
    rw (low, high, power, whole) (omega arith)

pub ternary_copied : (p s d : ℕ) → ternary_raster 204 p s d ≡ s % 16777216
unfolding ternary_raster
ternary_copied p s d = bits_copied 24 p s d

-- whatever the pattern and the destination are, known or not
pub copied_is : (p s d : Option ℕ) → copied s ≡ maybe_raster_at Bits24 204 p s d
copied_is None None d = refl
copied_is (Some p) None d = refl
copied_is None (Some s) None = ap (λ n. Some n) (sym (ternary_copied 0 s 0))
copied_is None (Some s) (Some d) = ap (λ n. Some n) (sym (ternary_copied 0 s d))
copied_is (Some p) (Some s) None = ap (λ n. Some n) (sym (ternary_copied p s 0))
copied_is (Some p) (Some s) (Some d) = ap (λ n. Some n) (sym (ternary_copied p s d))

pub mixed_copied : (code : ℕ) (p s d : Option ℕ) → code ≡ 204 → copied s ≡ maybe_raster_at Bits24 code p s d
mixed_copied code p s d is = copied_is p s d ∙ ap (λ (n : ℕ). maybe_raster_at Bits24 n p s d) (sym is)

-- ---- the operation on fewer bits

fewer_bits : (n m code p s d : ℕ) → raster_bits n code p s d ≡ raster_bits (n + m) code p s d % 2 ^ n
fewer_bits zero m code p s d = omega arith
fewer_bits (suc n) m code p s d =
    let low : raster_bit code (p % 2) (s % 2) (d % 2) < 2 = bit_at-lt code (4 * (p % 2) + (2 * (s % 2) + d % 2)) in
    let high : raster_bits n code (p / 2) (s / 2) (d / 2) ≡ raster_bits (n + m) code (p / 2) (s / 2) (d / 2) % 2 ^ n = fewer_bits n m code (p / 2) (s / 2) (d / 2) in
    let some : 0 < 2 ^ n = pow_pos n in
    let bit = raster_bit code (p % 2) (s % 2) (d % 2) in
    let more = raster_bits (n + m) code (p / 2) (s / 2) (d / 2) in
    let all : ℕ = bit + 2 * more in
    let whole : all % (2 ^ n * 2) ≡ (all / 2 % 2 ^ n) * 2 + all % 2 = mod-mul all some (omega arith) in
    let half : all / 2 ≡ more = omega (arith, low) in
    let power : 2 ^ suc n ≡ 2 ^ n * 2 = omega arith in
    let lowest : all % 2 ≡ bit = omega (arith, low) in
    let sum : suc n + m ≡ suc (n + m) = omega arith in
    let parts : bit + 2 * (more % 2 ^ n) ≡ (more % 2 ^ n) * 2 + all % 2 = omega (arith, lowest) in
    ap (λ k. bit + 2 * k) high ∙ parts ∙ ap (λ k. (k % 2 ^ n) * 2 + all % 2) (sym half) ∙ sym whole ∙ ap (λ k. all % k) (sym power)
    ∙ ap (λ k. raster_bits k code p s d % 2 ^ suc n) (sym sum)

raster_16 : (code p s d : ℕ) → raster_bits 16 code p s d ≡ ternary_raster code p s d % 65536
unfolding ternary_raster
raster_16 code p s d = fewer_bits 16 8 code p s d

-- ---- colours have no bits from 24 on

pub low_is : (color : ℕ) → color < 2 ^ 24 → color % 2 ^ 24 ≡ color
low_is color h = omega (arith, h)

pub raster_low : (code p s d : ℕ) → ternary_raster code p s d % 2 ^ 24 ≡ ternary_raster code p s d
raster_low code p s d = low_is (ternary_raster code p s d) (ternary_raster_below code p s d)

cut_low : (n : ℕ) → n % 65536 % 2 ^ 24 ≡ n % 65536
cut_low n = omega arith

-- on 16 bits
pub raster_low_16 : (code p s d : ℕ) → ternary_raster code p s d % 65536 % 2 ^ 24 ≡ raster_at Bits16 code p s d
raster_low_16 code p s d = cut_low (ternary_raster code p s d) ∙ sym (raster_16 code p s d)

pub copied_same : (pixel : Option ℕ) → IfSome pixel (λ color. color < 2 ^ 24) → pixel ≡ copied pixel
copied_same None h = refl
copied_same (Some color) h = ap (λ n. Some n) (sym (low_is color h))
