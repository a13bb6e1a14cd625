use Rattle.frame_laws.proofs.Jump.{jumped_agrees}
use Rattle.frame_laws.proofs.laws.jump_keeps_the_agreement.Goals as goal

pub returns : goal.returns
returns c = jumped_agrees
