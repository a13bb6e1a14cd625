use Rattle.std.proofs.Common.{rules}
use Rattle.save_plan.proofs.room.positions.Goals as goal

pub returns-in-Some : goal.returns-in-Some
returns-in-Some c = search rules
