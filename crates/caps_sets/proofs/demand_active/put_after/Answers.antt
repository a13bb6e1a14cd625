use Rattle.std.proofs.Common.{rules}
use Rattle.caps_sets.specs.DemandActive.{after_bitmap}
use Rattle.caps_sets.proofs.demand_active.put_after.Goals as goal

pub returns-clause-ok : goal.returns-clause-ok
unfolding after_bitmap
returns-clause-ok c = search rules
