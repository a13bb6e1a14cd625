use Rattle.std.proofs.Common.{◌∙◌, ◌+◌, take, arith}
use Rattle.rle_dec.proofs.Drawn.{dithered_step}
use Rattle.rle_dec.proofs.draw.draw_dithered.Goals as goal

pub loop-preserved : goal.loop-preserved
loop-preserved c = (
  omega (arith, c.loop.invariant.0),
  dithered_step c.args.w c.args.n c.loop.counter c.args.first c.args.second (take c.loop.next c.loop.out) (take (c.loop.next + 2) c.draw_colors.new.out) c.loop-test.true c.draw_colors.ensures ∙ c.loop.invariant.1,
)
