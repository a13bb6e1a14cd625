use Rattle.std.proofs.Common.{◌≡◌, ℕ, ◌%◌, ◌<◌, get_or}
use Rattle.surface_parts.proofs.mix.repeat_columns.Given as goal

-- the places so far have the first columns' colours
abbrev pub invariant-loop-k : goal.invariant-loop-k
invariant-loop-k l = (j : ℕ) → j < l.k → get_or l.row j 0 ≡ get_or l.initial.row (j % 8) 0
