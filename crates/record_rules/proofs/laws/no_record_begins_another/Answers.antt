use Rattle.record_rules.proofs.RecordsBack.{no_prefix}
use Rattle.record_rules.proofs.laws.no_record_begins_another.Goals as goal

pub returns : goal.returns
returns c = no_prefix
