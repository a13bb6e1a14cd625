use Rattle.record_rules.proofs.HeadsBack.{head_back}
use Rattle.record_rules.proofs.EntriesBack.{framed_back}
use Rattle.record_rules.proofs.laws.fields_are_read_back.Goals as goal

pub returns : goal.returns
returns c = record { head = head_back; entry = framed_back }
