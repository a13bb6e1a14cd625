use Rattle.std.proofs.Common.{length, ◌-◌, ◌≤◌}
use Rattle.rle_enc.specs.Stretch.{StandAlone, spots_of}
use Rattle.rle_enc.proofs.counts.count_alone.Given as goal

abbrev pub invariant-loop-n : goal.invariant-loop-n
invariant-loop-n l = (l.n ≤ length l.pixels) × StandAlone l.n l.pixels (spots_of l.aboves l.pixels)

abbrev pub decreases-loop-n : goal.decreases-loop-n
decreases-loop-n l = length l.pixels - l.n
