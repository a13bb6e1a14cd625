use Rattle.record_rules.proofs.RecordsBack.{stands_back, stands_for_one}
use Rattle.record_rules.proofs.laws.records_are_read_back.Goals as goal

pub returns : goal.returns
returns c = record { read = stands_back; one = stands_for_one }
