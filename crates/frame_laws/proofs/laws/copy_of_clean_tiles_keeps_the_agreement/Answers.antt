use Rattle.frame_laws.proofs.Sent.{copy_agrees}
use Rattle.frame_laws.proofs.laws.copy_of_clean_tiles_keeps_the_agreement.Goals as goal

pub returns : goal.returns
returns c = copy_agrees
