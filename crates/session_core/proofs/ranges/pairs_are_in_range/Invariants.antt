use Rattle.std.proofs.Common.{◌≡◌, true, drop}
use Rattle.draw_ops.specs.Ranges.{are_byte_pairs}
use Rattle.session_core.proofs.ranges.pairs_are_in_range.Given as goal

-- those that were passed are in range
abbrev pub invariant-loop-pair : goal.invariant-loop-pair
invariant-loop-pair l = are_byte_pairs (drop l.pair-index l.pairs) ≡ true → are_byte_pairs l.pairs ≡ true
