use Rattle.session_rules.proofs.Joins.{join_is}
use Rattle.session_rules.proofs.session_laws.joins_enter_the_next_number.Goals as goal

pub returns : goal.returns
returns c = join_is
