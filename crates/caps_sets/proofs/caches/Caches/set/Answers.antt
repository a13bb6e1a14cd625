use Rattle.std.proofs.Common.{rules}
use Rattle.caps_sets.proofs.caches.Caches.set.Goals as goal

pub returns : goal.returns
returns g c = search rules
