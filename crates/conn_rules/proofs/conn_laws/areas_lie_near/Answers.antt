use Rattle.conn_rules.proofs.Near.{heard_near}
use Rattle.conn_rules.proofs.conn_laws.areas_lie_near.Goals as goal

pub returns-clause-areas : goal.returns-clause-areas
returns-clause-areas c = λ h bytes p q. (heard_near h bytes p q).0

pub returns-clause-part : goal.returns-clause-part
returns-clause-part c = λ h bytes p q. (heard_near h bytes p q).1
