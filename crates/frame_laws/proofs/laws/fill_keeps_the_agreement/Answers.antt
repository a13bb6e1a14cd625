use Rattle.frame_laws.proofs.Sent.{fill_agrees}
use Rattle.frame_laws.proofs.laws.fill_keeps_the_agreement.Goals as goal

pub returns : goal.returns
returns c = fill_agrees
