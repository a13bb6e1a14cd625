use Rattle.std.proofs.Common.{◌-◌, ◌≤◌, length}
use Rattle.lane_rop.specs.Rows.{AreMixed}
use Rattle.lane_rop.proofs.rows.three_blocks.Given as goal

-- the places so far are mixed
abbrev pub invariant-loop-d : goal.invariant-loop-d
invariant-loop-d l = (l.i ≤ length l.d) × AreMixed l.sums.code l.p l.s 0 l.i l.initial.d l.d

abbrev pub decreases-loop-d : goal.decreases-loop-d
decreases-loop-d l = length l.d - l.i
