use Rattle.std.proofs.Common.{◌∙◌, length, take, arith}
use Rattle.std.specs.Prelude.{◌==◌}
use Rattle.std.proofs.lemmas.List.Sums.{common_prefix_len-le}
use Rattle.rle_enc.proofs.Counting.{back_run_is}
use Rattle.rle_enc.proofs.counts.count_same.Goals as goal

pub returns-else-n-lt-NEAR-clause-is : goal.returns-else-n-lt-NEAR-clause-is
returns-else-n-lt-NEAR-clause-is c = c.back_run.ensures ∙ back_run_is c.args.pixels.now c.args.aboves.now

pub returns-else-n-lt-NEAR-clause-within : goal.returns-else-n-lt-NEAR-clause-within
returns-else-n-lt-NEAR-clause-within c = omega (arith, c.back_run.ensures, (common_prefix_len-le (λ x y. x == y) c.args.pixels.now (take (length c.args.pixels.now) c.args.aboves.now)).0)
