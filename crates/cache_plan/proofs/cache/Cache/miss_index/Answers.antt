use Rattle.std.proofs.Common.{rules}
use Rattle.cache_plan.proofs.cache.Cache.miss_index.Goals as goal

pub returns-then-held-get-clause-full : goal.returns-then-held-get-clause-full
returns-then-held-get-clause-full c = search rules
