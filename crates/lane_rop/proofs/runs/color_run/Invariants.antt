use Rattle.std.proofs.Common.{◌≡◌, ◌+◌, ◌-◌, ◌≤◌, eqb, length, drop}
use Rattle.std.specs.List.{prefix_len}
use Rattle.lane_rop.proofs.runs.color_run.Given as goal

-- the run reaches this place
abbrev pub invariant-loop-at : goal.invariant-loop-at
invariant-loop-at l = (l.from ≤ l.at) × (l.at ≤ length l.pixels) × (l.from + prefix_len (λ x. eqb x l.color) (drop l.from l.pixels) ≡ l.at + prefix_len (λ x. eqb x l.color) (drop l.at l.pixels))

abbrev pub decreases-loop-at : goal.decreases-loop-at
decreases-loop-at l = length l.pixels - l.at
