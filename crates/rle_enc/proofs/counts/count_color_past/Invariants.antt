use Rattle.std.proofs.Common.{length, drop, ◌-◌, ◌+◌, ◌≡◌, ◌≤◌}
use Rattle.rle_enc.specs.Stretch.{leading}
use Rattle.rle_enc.proofs.counts.count_color_past.Given as goal

abbrev pub invariant-loop-n : goal.invariant-loop-n
invariant-loop-n l = (l.n ≤ length l.pixels) × (leading l.color l.pixels ≡ l.n + leading l.color (drop l.n l.pixels))

abbrev pub decreases-loop-n : goal.decreases-loop-n
decreases-loop-n l = length l.pixels - l.n
