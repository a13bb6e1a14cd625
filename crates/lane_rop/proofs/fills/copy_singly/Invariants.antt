use Rattle.std.proofs.Common.{◌≡◌, ℕ, ◌<◌, get_or}
use Rattle.lane_rop.proofs.fills.copy_singly.Given as goal

-- the places so far are copied
abbrev pub invariant-loop-k : goal.invariant-loop-k
invariant-loop-k l = (j : ℕ) → j < l.k → get_or l.to j 0 ≡ get_or l.from j 0
