use Rattle.std.proofs.Common.{rules}
use Rattle.frame_plan.proofs.walk.Walker.walk.Goals as goal

pub returns-after-confirmed-2 : goal.returns-after-confirmed-2
returns-after-confirmed-2 c = search rules
