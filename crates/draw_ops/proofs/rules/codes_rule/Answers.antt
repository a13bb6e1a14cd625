use Rattle.std.proofs.Common.{arith}
use Rattle.draw_ops.proofs.Broken.{no_code_is}
use Rattle.draw_ops.proofs.rules.codes_rule.Goals as goal

pub returns : goal.returns
returns c = no_code_is c.args.pairs.now (λ k lt. c.loop-pair.invariant k (omega arith))
