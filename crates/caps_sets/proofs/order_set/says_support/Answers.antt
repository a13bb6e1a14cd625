use Rattle.std.proofs.Common.{arith}
use Rattle.std.proofs.lemmas.Grind.{common_steps}
use Rattle.caps_sets.proofs.order_set.says_support.Goals as goal

pub returns : goal.returns
returns c = grind (arith, common_steps)
