use Rattle.std.proofs.Common.{◌∙◌, ◌+◌, get_or, take, refl, arith}
use Rattle.rle_dec.proofs.Drawn.{mask_next_step}
use Rattle.rle_dec.proofs.draw.draw_mask.Goals as goal

pub loop-byte-preserved : goal.loop-byte-preserved
loop-byte-preserved c =
    let i = c.loop-byte.invariant in (
      omega (arith, i.0),
      omega (arith, i.1, c.min-step.ensures),
      mask_next_step c.args.w c.loop-byte.left c.min-step.result c.loop-byte.byte-index (get_or c.args.mask.now c.loop-byte.byte-index 0) c.args.back c.args.fore c.args.mask.now
          (take c.loop-byte.next c.loop-byte.out) (take (c.loop-byte.next + c.min-step.result) c.draw_bits.new.out) c.loop-byte-test.true refl c.min-step.ensures c.draw_bits.ensures ∙ i.2,
    )
