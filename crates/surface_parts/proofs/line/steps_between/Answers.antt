use Rattle.std.proofs.Common.{rules}
use Rattle.surface_parts.proofs.line.steps_between.Goals as goal

pub returns-clause-few : goal.returns-clause-few
returns-clause-few c = search rules

pub returns-clause-seen : goal.returns-clause-seen
returns-clause-seen c = search rules
