-- The operation on 16 bits of cut operands is the cut of the operation; and over operands that are seen it gives what is seen of it.
use Rattle.std.proofs.Common.{◌≡◌, ℕ, ◌+◌, ◌-◌, ◌<◌, ◌≤◌, ⊎_elim, refl, sym, ap, subst, ◌∙◌, arith}
use Rattle.std.specs.Prelude.{Option, Some}
use Rattle.std.specs.Int.{bit_at}
use Rattle.std.proofs.lemmas.Bool.{cases_lt}
use Rattle.std.proofs.lemmas.Nat.Bits.{same_from_bits}
use Rattle.px_core.specs.declared.depth.Depth.{Depth}
use Rattle.px_core.specs.declared.depth.Depth.TheVariants.{Bits24, Bits16}
use Rattle.px_core.specs.Depth.{cut_color, shown, seen}
use Rattle.px_core.proofs.Cut.{blue_bit, green_bit, red_bit}
use Rattle.rop3_core.specs.Rop3.{raster_bit, raster_bits, ternary_raster}
use Rattle.rop3_core.proofs.RasterBits.{bit_of_raster, no_bit_above, bit_of_ternary, no_bit_above_ternary}
use Rattle.draw_ops.specs.Depths.{raster_at, maybe_raster_at}

abbrev same_bit : (code p s o i : ℕ) → Type 0
same_bit code p s o i = bit_at (cut_color (ternary_raster code p s o)) i ≡ bit_at (raster_bits 16 code (cut_color p) (cut_color s) (cut_color o)) i

-- where a bit of each cut operand is a bit of the operand, so is the bit of the result
moved_bit : (code p s o i j : ℕ) → i < 16 → j < 24 → ((c : ℕ) → bit_at (cut_color c) i ≡ bit_at c j) → same_bit code p s o i
moved_bit code p s o i j low high same =
    same (ternary_raster code p s o) ∙ bit_of_ternary code p s o j high
    ∙ (λ k. raster_bit code (sym (same p) k) (sym (same s) k) (sym (same o) k))
    ∙ sym (bit_of_raster 16 code (cut_color p) (cut_color s) (cut_color o) i low)

no_bit : (code p s o i : ℕ) → 5 ≤ i → same_bit code p s o (11 + i)
no_bit code p s o i h =
    red_bit (ternary_raster code p s o) i ∙ no_bit_above_ternary code p s o (19 + i) (omega (arith, h))
    ∙ sym (no_bit_above 16 code (cut_color p) (cut_color s) (cut_color o) (11 + i) (omega (arith, h)))

placed : (code p s o i j : ℕ) → j ≡ i → same_bit code p s o j → same_bit code p s o i
placed code p s o i j e h = subst (same_bit code p s o) e h

each : (code p s o i : ℕ) → same_bit code p s o i
each code p s o i = ⊎_elim
    (λ (b : i < 5). moved_bit code p s o i (3 + i) (omega (arith, b)) (omega (arith, b)) (λ c. blue_bit c i b))
    (λ (a : 5 ≤ i). ⊎_elim
    (λ (g : i < 11). let back : 5 + (i - 5) ≡ i = omega (arith, a) in
    placed code p s o i (5 + (i - 5)) back (moved_bit code p s o (5 + (i - 5)) (10 + (i - 5)) (omega (arith, a, g)) (omega (arith, a, g)) (λ c. green_bit c (i - 5) (omega (arith, a, g)))))
    (λ (r : 11 ≤ i). let back : 11 + (i - 11) ≡ i = omega (arith, r) in
    placed code p s o i (11 + (i - 11)) back (⊎_elim
    (λ (m : i - 11 < 5). moved_bit code p s o (11 + (i - 11)) (19 + (i - 11)) (omega (arith, m)) (omega (arith, m)) (λ c. red_bit c (i - 11)))
    (λ (n : 5 ≤ i - 11). no_bit code p s o (i - 11) n)
    (cases_lt (i - 11) 5)))
    (cases_lt i 11))
    (cases_lt i 5)

pub cut_raster : (code p s o : ℕ) → cut_color (ternary_raster code p s o) ≡ raster_bits 16 code (cut_color p) (cut_color s) (cut_color o)
cut_raster code p s o = same_from_bits _ _ (each code p s o)

pub shown_raster : (d : Depth) (code p s o : ℕ) → shown d (ternary_raster code p s o) ≡ raster_at d code (shown d p) (shown d s) (shown d o)
shown_raster Bits24 code p s o = refl
shown_raster Bits16 code p s o = cut_raster code p s o

-- the operation over operands that are what is seen of colours
pub operation : (d : Depth) (code p s o : ℕ) {po so : Option ℕ} → po ≡ seen d p → so ≡ seen d s → maybe_raster_at d code po so (seen d o) ≡ seen d (ternary_raster code p s o)
operation d code p s o pp ss = (λ i. maybe_raster_at d code (pp i) (ss i) (seen d o)) ∙ ap Some (sym (shown_raster d code p s o))
