use Rattle.std.proofs.Common.{◌≡◌, ◌+◌, ◌-◌, ◌≤◌, eqb, length, drop}
use Rattle.std.specs.List.{common_prefix_len}
use Rattle.lane_rop.proofs.runs.back_run.Given as goal

-- the run reaches this place
abbrev pub invariant-loop-at : goal.invariant-loop-at
invariant-loop-at l = (l.from ≤ l.at) × (l.at ≤ length l.pixels) × (l.from + common_prefix_len eqb (drop l.from l.pixels) (drop l.from l.above) ≡ l.at + common_prefix_len eqb (drop l.at l.pixels) (drop l.at l.above))

abbrev pub decreases-loop-at : goal.decreases-loop-at
decreases-loop-at l = length l.pixels - l.at
