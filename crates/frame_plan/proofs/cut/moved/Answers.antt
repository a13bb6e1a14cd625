use Rattle.std.proofs.Common.{rules}
use Rattle.frame_plan.proofs.cut.moved.Goals as goal

pub returns : goal.returns
returns c = search rules
