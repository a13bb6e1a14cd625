use Rattle.std.proofs.Common.{◌≡◌, ℕ, ◌<◌, get_or}
use Rattle.std.specs.Prelude.{None}
use Rattle.draw_ops.specs.Fits.{code_limit_rule}
use Rattle.draw_ops.proofs.rules.codes_rule.Given as goal

abbrev pub invariant-loop-pair : goal.invariant-loop-pair
invariant-loop-pair l = (k : ℕ) → k < l.pair-index → code_limit_rule (get_or l.pairs k (0, 0)).0 ≡ None
