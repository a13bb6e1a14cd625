use Rattle.headline.proofs.LinesGoOn.{sends_nothing, sends_more}
use Rattle.headline.proofs.capture_laws.bytes_are_sent_step_by_step.Goals as goal

pub returns : goal.returns
returns c = record { first = sends_nothing; next = sends_more }
