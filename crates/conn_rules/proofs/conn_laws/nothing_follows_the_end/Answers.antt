use Rattle.conn_rules.proofs.Quiet.{end_silence}
use Rattle.conn_rules.proofs.conn_laws.nothing_follows_the_end.Goals as goal

pub returns : goal.returns
returns c = end_silence
