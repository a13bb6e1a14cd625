use Rattle.std.proofs.Common.{length}
use Rattle.client_caches.proofs.run.+check_pairs.Given as goal

abbrev pub decreases-check_pairs : goal.decreases-check_pairs
decreases-check_pairs l = length l.run.now
