use Rattle.std.proofs.Common.{rules}
use Rattle.edge_io.proofs.plan_gate.PlanGateGate.done.Goals as goal

pub returns-clause-finished : goal.returns-clause-finished
returns-clause-finished c = search rules
