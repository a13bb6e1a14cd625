use Rattle.serve_rules.proofs.Handling.{handles_more}
use Rattle.serve_rules.proofs.laws.what_was_handled_stays.Goals as goal

pub returns : goal.returns
returns c = handles_more
