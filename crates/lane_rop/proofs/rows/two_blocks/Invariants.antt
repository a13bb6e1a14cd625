use Rattle.std.proofs.Common.{◌-◌, ◌≤◌, length, slice_index}
use Rattle.lane_rop.specs.Sums.{sum_of_two}
use Rattle.lane_rop.specs.Rows.{AreMade}
use Rattle.lane_rop.proofs.rows.two_blocks.Given as goal

-- the places so far are made
abbrev pub invariant-loop-d : goal.invariant-loop-d
invariant-loop-d l = (l.i ≤ length l.d) × AreMade (λ k. sum_of_two l.words (slice_index l.x k) (slice_index l.initial.d k)) 0 l.i l.initial.d l.d

abbrev pub decreases-loop-d : goal.decreases-loop-d
decreases-loop-d l = length l.d - l.i
