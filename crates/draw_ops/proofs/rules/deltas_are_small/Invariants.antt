use Rattle.std.proofs.Common.{◌≡◌, ℕ, ◌<◌, get_or}
use Rattle.std.specs.Prelude.{true, nat_le}
use Rattle.draw_ops.proofs.rules.deltas_are_small.Given as goal

abbrev pub invariant-loop-pair : goal.invariant-loop-pair
invariant-loop-pair l = (k : ℕ) → k < l.pair-index → nat_le (get_or l.pairs k (0, 0)).1 127 ≡ true
