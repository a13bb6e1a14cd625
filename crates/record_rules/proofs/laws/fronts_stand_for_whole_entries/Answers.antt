use Rattle.record_rules.proofs.RecordsBack.{front_stands}
use Rattle.record_rules.proofs.laws.fronts_stand_for_whole_entries.Goals as goal

pub returns : goal.returns
returns c = front_stands
