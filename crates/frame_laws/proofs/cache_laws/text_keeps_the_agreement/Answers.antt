use Rattle.frame_laws.proofs.TextSent.{text_agrees}
use Rattle.frame_laws.proofs.cache_laws.text_keeps_the_agreement.Goals as goal

pub returns : goal.returns
returns k = text_agrees
