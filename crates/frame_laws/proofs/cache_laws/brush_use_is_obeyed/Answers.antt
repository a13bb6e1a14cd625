use Rattle.frame_laws.proofs.BrushUse.{brush_is_used}
use Rattle.frame_laws.proofs.cache_laws.brush_use_is_obeyed.Goals as goal

pub returns : goal.returns
returns k size c j client uses brush s sized caches = brush_is_used size c j client uses brush s sized caches
