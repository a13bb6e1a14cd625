use Rattle.std.proofs.Common.{ℕ, List, get_or, arith}
use Rattle.rle_enc.proofs.Counting.{differ, leading_until, leading_within}
use Rattle.rle_enc.proofs.counts.has_color_at.Goals as goal

pub returns-then-at-pixels : goal.returns-then-at-pixels
returns-then-at-pixels c = λ no. let ps : List ℕ = c.args.pixels.now in leading_until (get_or ps 0 0) c.args.at ps c.if-at-pixels.true (differ (get_or ps c.args.at 0) (get_or ps 0 0) no)

pub returns-else-at-pixels : goal.returns-else-at-pixels
returns-else-at-pixels c = λ no. let ps : List ℕ = c.args.pixels.now in omega (arith, leading_within (get_or ps 0 0) ps, c.if-at-pixels.false)
