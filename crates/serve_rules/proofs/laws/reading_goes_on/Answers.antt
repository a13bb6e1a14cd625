use Rattle.serve_rules.proofs.ReadOn.{reads_then, reads_met}
use Rattle.serve_rules.proofs.laws.reading_goes_on.Goals as goal

pub returns : goal.returns
returns c = record { after = reads_then; met = reads_met }
