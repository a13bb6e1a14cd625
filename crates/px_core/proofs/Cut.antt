-- A colour that is cut, bit by bit.
use Rattle.std.proofs.Common.{◌≡◌, ℕ, zero, suc, ◌+◌, ◌/◌, ◌%◌, ◌^◌, ◌<◌, refl, sym, ap, ◌∙◌, arith}
use Rattle.std.specs.Int.{bit_at}
use Rattle.std.proofs.lemmas.Nat.{shr-shr}
use Rattle.px_core.specs.declared.depth.Depth.{Depth}
use Rattle.px_core.specs.declared.depth.Depth.TheVariants.{Bits24, Bits16}
use Rattle.px_core.specs.Depth.{bits_in, cut_color, wide_color, shown}

-- the bits of a number past some are those of the number above
pub bits_past : (k x i : ℕ) → bit_at x (k + i) ≡ bit_at (x / 2 ^ k) i
bits_past k x i = ap (λ y. y % 2) (sym (shr-shr x k i))

pub cut_above : (c : ℕ) → cut_color c / 2048 ≡ c / 524288
unfolding cut_color
cut_above c = omega arith

pub cut_green : (c : ℕ) → cut_color c / 32 % 64 ≡ c / 1024 % 64
unfolding cut_color
cut_green c = omega arith

pub cut_blue : (c : ℕ) → cut_color c % 32 ≡ c / 8 % 32
unfolding cut_color
cut_blue c = omega arith

pub wide_cut : (v : ℕ) → cut_color (wide_color v) ≡ v
unfolding cut_color wide_color
wide_cut v = omega arith

pub cut_below : (c : ℕ) → c < 16777216 → cut_color c < 65536
unfolding cut_color
cut_below c h = omega (arith, h)

-- ---- bits

-- the lowest six bits of a number are those of its remainder
pub low_bit : (x i : ℕ) → i < 6 → bit_at x i ≡ bit_at (x % 64) i
low_bit x zero h = omega arith
low_bit x (suc zero) h = omega arith
low_bit x (suc (suc zero)) h = omega arith
low_bit x (suc (suc (suc zero))) h = omega arith
low_bit x (suc (suc (suc (suc zero)))) h = omega arith
low_bit x (suc (suc (suc (suc (suc zero))))) h = omega arith
low_bit x (suc (suc (suc (suc (suc (suc i)))))) h = absurd (omega (arith, h))

-- and so are the lowest five
pub lower_bit : (x i : ℕ) → i < 5 → bit_at x i ≡ bit_at (x % 32) i
lower_bit x zero h = omega arith
lower_bit x (suc zero) h = omega arith
lower_bit x (suc (suc zero)) h = omega arith
lower_bit x (suc (suc (suc zero))) h = omega arith
lower_bit x (suc (suc (suc (suc zero)))) h = omega arith
lower_bit x (suc (suc (suc (suc (suc i))))) h = absurd (omega (arith, h))

-- the bits of a colour that is cut: five of blue, six of green, and those of red
pub blue_bit : (c i : ℕ) → i < 5 → bit_at (cut_color c) i ≡ bit_at c (3 + i)
blue_bit c i h = lower_bit (cut_color c) i h ∙ ap (λ y. bit_at y i) (cut_blue c) ∙ sym (lower_bit (c / 8) i h) ∙ sym (bits_past 3 c i)

pub green_bit : (c i : ℕ) → i < 6 → bit_at (cut_color c) (5 + i) ≡ bit_at c (10 + i)
green_bit c i h = bits_past 5 (cut_color c) i ∙ low_bit (cut_color c / 32) i h ∙ ap (λ y. bit_at y i) (cut_green c) ∙ sym (low_bit (c / 1024) i h) ∙ sym (bits_past 10 c i)

pub red_bit : (c i : ℕ) → bit_at (cut_color c) (11 + i) ≡ bit_at c (19 + i)
red_bit c i = bits_past 11 (cut_color c) i ∙ ap (λ y. bit_at y i) (cut_above c) ∙ sym (bits_past 19 c i)

-- ---- as they are shown

pub shown_below : (d : Depth) (c : ℕ) → c < 16777216 → shown d c < 2 ^ bits_in d
shown_below Bits24 c h = h
shown_below Bits16 c h = cut_below c h

pub shown_black : (d : Depth) → shown d 0 ≡ 0
unfolding cut_color
shown_black Bits24 = refl
shown_black Bits16 = refl
