use Rattle.frame_laws.proofs.ImageUse.{image_used}
use Rattle.frame_laws.proofs.cache_laws.image_use_is_obeyed.Goals as goal

pub returns : goal.returns
returns k size c j client uses cache image s sized caches three = image_used size c j client uses cache image s sized caches three
