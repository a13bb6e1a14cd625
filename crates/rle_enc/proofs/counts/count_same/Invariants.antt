use Rattle.std.proofs.Common.{length, drop, ◌-◌, ◌+◌, ◌≡◌, ◌≤◌, zip}
use Rattle.run_lengths.specs.Packer.{background_count}
use Rattle.rle_enc.proofs.counts.count_same.Given as goal

abbrev pub invariant-loop-n : goal.invariant-loop-n
invariant-loop-n l = (l.n ≤ length l.pixels) × (background_count (zip l.pixels l.aboves) ≡ l.n + background_count (zip (drop l.n l.pixels) (drop l.n l.aboves)))

abbrev pub decreases-loop-n : goal.decreases-loop-n
decreases-loop-n l = length l.pixels - l.n
