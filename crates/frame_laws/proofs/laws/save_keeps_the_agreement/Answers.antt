use Rattle.frame_laws.proofs.SentSave.{save_agrees}
use Rattle.frame_laws.proofs.laws.save_keeps_the_agreement.Goals as goal

pub returns : goal.returns
returns c = save_agrees
