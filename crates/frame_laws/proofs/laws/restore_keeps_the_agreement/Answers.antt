use Rattle.frame_laws.proofs.SentRestore.{restore_agrees}
use Rattle.frame_laws.proofs.laws.restore_keeps_the_agreement.Goals as goal

pub returns : goal.returns
returns c = restore_agrees
