use Rattle.std.proofs.Common.{rules}
use Rattle.session_core.proofs.standing.Standing.admit.Goals as goal

pub returns-clause-number : goal.returns-clause-number
returns-clause-number c = search rules

pub returns-clause-reached : goal.returns-clause-reached
returns-clause-reached c = search rules
