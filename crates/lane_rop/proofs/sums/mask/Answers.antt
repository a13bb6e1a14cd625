use Rattle.std.proofs.Common.{arith}
use Rattle.std.proofs.lemmas.Grind.{common_steps}
use Rattle.lane_rop.proofs.sums.mask.Goals as goal

pub returns-then-code-place-eq1 : goal.returns-then-code-place-eq1
returns-then-code-place-eq1 c = grind (arith, common_steps)

pub returns-else-code-place-eq1 : goal.returns-else-code-place-eq1
returns-else-code-place-eq1 c = grind (arith, common_steps)
