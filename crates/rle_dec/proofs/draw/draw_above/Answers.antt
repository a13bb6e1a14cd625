use Rattle.std.proofs.Common.{◌≡◌, ◌∙◌, ◌+◌, ◌-◌, refl, sym, take, length, arith}
use Rattle.std.proofs.lemmas.List.{length-take-le}
use Rattle.rle_dec.proofs.Drawn.{above_next_step}
use Rattle.rle_dec.proofs.draw.draw_above.Goals as goal

pub loop-left-preserved : goal.loop-left-preserved
loop-left-preserved c =
    let i = c.loop-left.invariant in
    let long : length (take c.loop-left.next c.loop-left.out) ≡ c.loop-left.next = length-take-le c.loop-left.next c.loop-left.out (omega (arith, i.1, c.requires.room)) in (
      omega (arith, i.0),
      omega (arith, i.1, c.min-step.ensures),
      above_next_step c.args.w c.loop-left.left c.loop-left.next (c.loop-left.next - c.args.w) c.min-step.result (take c.loop-left.next c.loop-left.out)
          (take (c.loop-left.next + c.min-step.result) c.copy_back.new.out) i.0 (sym long) refl c.min-step.ensures c.copy_back.ensures ∙ i.2,
    )
