use Rattle.frame_laws.proofs.BlitSent.{blit_agrees}
use Rattle.frame_laws.proofs.cache_laws.blit_keeps_the_agreement.Goals as goal

pub returns : goal.returns
returns k = blit_agrees
