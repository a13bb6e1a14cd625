use Rattle.std.proofs.Common.{rules}
use Rattle.edge_io.proofs.plan_gate.has_room.Goals as goal

pub returns-in-Some : goal.returns-in-Some
returns-in-Some c = search rules
