use Rattle.frame_laws.proofs.Sent.{dst_agrees}
use Rattle.frame_laws.proofs.laws.dst_keeps_the_agreement.Goals as goal

pub returns : goal.returns
returns c = dst_agrees
