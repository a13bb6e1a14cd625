use Rattle.frame_laws.proofs.BrushUse.{pat_agrees}
use Rattle.frame_laws.proofs.cache_laws.pat_keeps_the_agreement.Goals as goal

pub returns : goal.returns
returns k = pat_agrees
