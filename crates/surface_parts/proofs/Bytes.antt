-- The bits of one byte, moved to the left.
use Rattle.std.proofs.Common.{◌≡◌, ℕ, ◌*◌, ◌/◌, ◌%◌, ◌-◌, ◌^◌, ◌<◌, zero, suc, [], ◌∷◌, get_or, ap, sym, ◌∙◌, arith}
use Rattle.std.specs.Prelude.{◌==◌}
use Rattle.std.proofs.Math.Nat.{pow-suc}
use Rattle.surface_parts.specs.Bits.{is_row_bit}

-- a bit that was moved to the highest place
moved_bit : (b s : ℕ) → s < 8 → (b * 2 ^ s) / 2 ^ 7 ≡ b / 2 ^ (7 - s)
moved_bit b zero h = omega arith
moved_bit b (suc zero) h = omega arith
moved_bit b (suc (suc zero)) h = omega arith
moved_bit b (suc (suc (suc zero))) h = omega arith
moved_bit b (suc (suc (suc (suc zero)))) h = omega arith
moved_bit b (suc (suc (suc (suc (suc zero))))) h = omega arith
moved_bit b (suc (suc (suc (suc (suc (suc zero)))))) h = omega arith
moved_bit b (suc (suc (suc (suc (suc (suc (suc zero))))))) h = omega arith
moved_bit b (suc (suc (suc (suc (suc (suc (suc (suc s)))))))) h = omega (arith, h)

-- the bit of a place of a byte is the highest one of the byte moved so far
pub highest_bit : (byte bits s : ℕ) → s < 8 → bits ≡ byte * 2 ^ s → is_row_bit (byte ∷ []) s ≡ ((bits / 2 ^ 7) % 2 == 1)
highest_bit byte bits s below moved = let first : s / 8 ≡ 0 = omega (arith, below) in let same : s % 8 ≡ s = omega (arith, below) in
    ap (λ i. (get_or (byte ∷ []) i 0 / 2 ^ (7 - s % 8)) % 2 == 1) first
    ∙ ap (λ i. (byte / 2 ^ (7 - i)) % 2 == 1) same
    ∙ ap (λ b. b % 2 == 1) (sym (moved_bit byte s below))
    ∙ ap (λ b. (b / 2 ^ 7) % 2 == 1) (sym moved)

-- a byte moved once more
pub moved_more : (byte bits s t : ℕ) → bits ≡ byte * 2 ^ s → t ≡ suc s → bits * 2 ≡ byte * 2 ^ t
moved_more byte bits s t moved e = ap (λ b. b * 2) moved ∙ twice byte (2 ^ s) ∙ ap (λ p. byte * p) (sym (pow-suc 2 s)) ∙ ap (λ n. byte * 2 ^ n) (sym e)
  where
    twice : (b p : ℕ) → (b * p) * 2 ≡ b * (p * 2)
    twice b p = grind arith
