use Rattle.std.proofs.Common.{◌≡◌, ℕ, ◌-◌, ◌<◌, length, get_or}
use Rattle.lane_rop.proofs.fills.fill_blocks.Given as goal

-- the places so far have the colour
abbrev pub invariant-loop-at : goal.invariant-loop-at
invariant-loop-at l = record {
  made : (k : ℕ) → k < l.at → get_or l.row k 0 ≡ l.color;
  within : l.at < length l.row;
}

abbrev pub decreases-loop-at : goal.decreases-loop-at
decreases-loop-at l = length l.row - l.at
