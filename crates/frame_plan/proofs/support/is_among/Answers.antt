use Rattle.std.proofs.Common.{arith}
use Rattle.std.proofs.lemmas.Grind.{common_steps}
use Rattle.frame_plan.proofs.support.is_among.Goals as goal

pub returns-then-number : goal.returns-then-number
returns-then-number c = grind (arith, common_steps)
