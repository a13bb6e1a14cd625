use Rattle.std.proofs.Common.{arith, rules}
use Rattle.std.proofs.lemmas.Grind.{common_steps}
use Rattle.draw_ops.proofs.Broken.{great_delta, small_deltas}
use Rattle.draw_ops.proofs.rules.deltas_are_small.Goals as goal

pub returns-then-pair-gt-GREATEST_DELTA : goal.returns-then-pair-gt-GREATEST_DELTA
returns-then-pair-gt-GREATEST_DELTA c = great_delta c.args.pairs.now c.loop-pair.pair-index (omega arith) (grind (arith, common_steps))

pub returns : goal.returns
returns c = small_deltas c.args.pairs.now (λ k lt. c.loop-pair.invariant k (omega arith))

pub loop-pair-preserved : goal.loop-pair-preserved
loop-pair-preserved c = search rules
