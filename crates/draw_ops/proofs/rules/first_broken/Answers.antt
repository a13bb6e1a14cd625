use Rattle.std.proofs.Common.{arith}
use Rattle.std.proofs.lemmas.Grind.{common_steps}
use Rattle.draw_ops.proofs.Broken.{first_is, none_is_first}
use Rattle.draw_ops.proofs.rules.first_broken.Goals as goal

pub returns-in-Some : goal.returns-in-Some
returns-in-Some c = first_is c.args.rules.now c.loop-rule.rule-index c.in-Some.rule c.loop-rule.invariant (grind (arith, common_steps))

pub returns : goal.returns
returns c = none_is_first c.args.rules.now (λ k lt. c.loop-rule.invariant k (omega arith))
