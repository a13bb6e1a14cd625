use Rattle.std.proofs.Common.{rules}
use Rattle.edge_io.proofs.plan.Plan.fails_now.Goals as goal

pub returns-then-fails-clause-answer : goal.returns-then-fails-clause-answer
returns-then-fails-clause-answer c = search rules

pub returns-then-fails-clause-after : goal.returns-then-fails-clause-after
returns-then-fails-clause-after c = search rules

pub returns-else-fails-clause-answer : goal.returns-else-fails-clause-answer
returns-else-fails-clause-answer c = search rules

pub returns-else-fails-clause-after : goal.returns-else-fails-clause-after
returns-else-fails-clause-after c = search rules
