use Rattle.std.proofs.Common.{rules}
use Rattle.session_core.proofs.standing.Standing.dismiss.Goals as goal

pub returns-then-self-v-clause-reached : goal.returns-then-self-v-clause-reached
returns-then-self-v-clause-reached c = search rules
