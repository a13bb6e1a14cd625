use Rattle.std.proofs.Common.{rules}
use Rattle.save_plan.proofs.blocks.Blocks.copy.Goals as goal

pub returns : goal.returns
returns c = search rules
