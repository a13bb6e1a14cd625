use Rattle.std.proofs.Common.{rules}
use Rattle.cache_plan.proofs.cache.Cache.new.Goals as goal

pub returns-in_default-clause-memory : goal.returns-in_default-clause-memory
returns-in_default-clause-memory c = search rules

pub returns-in-Ok-clause-made : goal.returns-in-Ok-clause-made
returns-in-Ok-clause-made c = search rules

pub returns-in_default-clause-unusable : goal.returns-in_default-clause-unusable
returns-in_default-clause-unusable c = search rules

pub returns-in-Err-clause-memory : goal.returns-in-Err-clause-memory
returns-in-Err-clause-memory c = search rules
