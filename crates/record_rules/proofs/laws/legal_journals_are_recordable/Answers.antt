use Rattle.record_rules.proofs.Recordable.{legal_recordable}
use Rattle.record_rules.proofs.laws.legal_journals_are_recordable.Goals as goal

pub returns : goal.returns
returns c = legal_recordable
