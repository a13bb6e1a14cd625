use Rattle.record_rules.proofs.Extends.{refused_for_ever, records_begin}
use Rattle.record_rules.proofs.laws.records_go_on.Goals as goal

pub returns : goal.returns
returns c = record { refused = refused_for_ever; begun = records_begin }
