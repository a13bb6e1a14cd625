use Rattle.session_rules.proofs.Joins.{join_place}
use Rattle.session_rules.proofs.session_laws.nobody_joins_twice.Goals as goal

pub returns : goal.returns
returns c = join_place
