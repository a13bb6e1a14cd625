use Rattle.std.proofs.Common.{◌≡◌, ℕ, ◌-◌, ◌<◌, length, get_or}
use Rattle.lane_rop.proofs.fills.copy_blocks.Given as goal

-- the places so far are copied
abbrev pub invariant-loop-at : goal.invariant-loop-at
invariant-loop-at l = record {
  made : (k : ℕ) → k < l.at → get_or l.to k 0 ≡ get_or l.from k 0;
  within : l.at < length l.to;
}

abbrev pub decreases-loop-at : goal.decreases-loop-at
decreases-loop-at l = length l.to - l.at
