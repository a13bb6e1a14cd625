use Rattle.std.proofs.Common.{◌≡◌, drop}
use Rattle.caps_sets.specs.Confirmed.{first_cache, first_cache_from}
use Rattle.frame_plan.specs.Needs.{serves}
use Rattle.frame_plan.proofs.needs.first_cache.Given as goal

-- none of the caches so far serves
abbrev pub invariant-loop-cache : goal.invariant-loop-cache
invariant-loop-cache l = first_cache_from l.cache (serves l.needs) (drop l.cache l.sizes) ≡ first_cache (serves l.needs) l.sizes
