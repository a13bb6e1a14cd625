use Rattle.conn_rules.proofs.Quiet.{ready_silence}
use Rattle.conn_rules.proofs.conn_laws.once_ready_nothing_is_replied.Goals as goal

pub returns : goal.returns
returns c = ready_silence
