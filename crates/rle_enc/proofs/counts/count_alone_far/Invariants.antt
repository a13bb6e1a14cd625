use Rattle.std.proofs.Common.{length, ◌-◌, ◌≤◌}
use Rattle.std.specs.Prelude.{zip}
use Rattle.rle_enc.specs.Stretch.{StandAlone}
use Rattle.rle_enc.proofs.counts.count_alone_far.Given as goal

abbrev pub invariant-loop-n : goal.invariant-loop-n
invariant-loop-n l = (l.n ≤ length l.pixels) × (l.known ≤ l.n) × StandAlone l.n l.pixels (zip l.pixels l.row)

abbrev pub decreases-loop-n : goal.decreases-loop-n
decreases-loop-n l = length l.pixels - l.n
