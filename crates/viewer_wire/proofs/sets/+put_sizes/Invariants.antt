use Rattle.std.proofs.Common.{length}
use Rattle.viewer_wire.proofs.sets.+put_sizes.Given as goal

abbrev pub decreases-put_sizes : goal.decreases-put_sizes
decreases-put_sizes l = length l.sizes.now
