use Rattle.std.proofs.Common.{rules}
use Rattle.grow_lock.proofs.pass.Pass.seen.Goals as goal

pub returns : goal.returns
returns g c = search rules
