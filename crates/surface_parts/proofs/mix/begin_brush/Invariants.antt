use Rattle.std.proofs.Common.{◌≡◌, ℕ, ◌+◌, ◌*◌, ◌%◌, ◌<◌, get_or}
use Rattle.surface_parts.proofs.mix.begin_brush.Given as goal

-- the places so far have the brush's colours
abbrev pub invariant-loop-k : goal.invariant-loop-k
invariant-loop-k l = (j : ℕ) → j < l.k → get_or l.row j 0 ≡ get_or l.brush (8 * (l.y % 8) + (l.x + j) % 8) 0
