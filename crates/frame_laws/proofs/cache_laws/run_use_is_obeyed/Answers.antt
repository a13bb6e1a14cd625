use Rattle.frame_laws.proofs.GlyphUse.{run_is_used}
use Rattle.frame_laws.proofs.cache_laws.run_use_is_obeyed.Goals as goal

pub returns : goal.returns
returns k size c j cache gs client uses few some ten s sized caches = run_is_used size c j cache few some ten gs client uses s sized caches
