use Rattle.session_rules.proofs.Joins.{left_between}
use Rattle.session_rules.proofs.session_laws.who_is_gone_has_left.Goals as goal

pub returns : goal.returns
returns c = left_between
