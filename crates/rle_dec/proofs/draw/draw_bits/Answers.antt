use Rattle.std.proofs.Common.{◌≡◌, ◌∙◌, ◌%◌, cond, false, ap, sym, eq-eqb, ℕ, ◌≢◌, arith}
use Rattle.std.specs.Prelude.{◌==◌}
use Rattle.std.proofs.lemmas.Bool.Decides.{nat_tests}
use Rattle.rle_dec.proofs.Places.{bits_placed}
use Rattle.rle_dec.proofs.draw.draw_bits.Goals as goal
use Rattle.rle_dec.proofs.draw.draw_bits.Goals.{then-bits-eq1, else-bits-eq1}

odd : (n : ℕ) → n ≢ 1 → (n == 1) ≡ false
odd n h = grind (arith, nat_tests, h)

pub loop-k-preserved : goal.loop-k-preserved
loop-k-preserved c =
    let stroke : c.if-bits-eq1.stroke ≡ cond (c.loop-k.bits % 2 == 1) c.args.fore c.args.back = elim c.if-bits-eq1.branch [ then-bits-eq1 w ↦ w.stroke-is ∙ ap (λ b. cond b c.args.fore c.args.back) (sym (eq-eqb (c.loop-k.bits % 2) 1 w.if-bits-eq1.true)) | else-bits-eq1 w ↦ w.stroke-is ∙ ap (λ b. cond b c.args.fore c.args.back) (sym (odd (c.loop-k.bits % 2) w.if-bits-eq1.false)) ] in
    bits_placed c.args.w c.args.n c.args.at c.loop-k.k c.args.byte c.loop-k.bits c.args.back c.args.fore c.if-bits-eq1.stroke c.loop-k.out c.draw_pixel.new.out c.loop-k-test.true stroke c.draw_pixel.ensures
    ∙ c.loop-k.invariant
