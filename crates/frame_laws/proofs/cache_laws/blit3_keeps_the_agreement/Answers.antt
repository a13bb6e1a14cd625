use Rattle.frame_laws.proofs.BrushUse.{blit3_agrees}
use Rattle.frame_laws.proofs.cache_laws.blit3_keeps_the_agreement.Goals as goal

pub returns : goal.returns
returns k = blit3_agrees
