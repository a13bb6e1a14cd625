use Rattle.std.proofs.Common.{◌-◌, length, get_or, ap, ◌∙◌, arith}
use Rattle.std.specs.Simd.Lanes.{chunk}
use Rattle.std.proofs.lemmas.Simd.{get_or-chunk, length-chunk}
use Rattle.lane_rop.proofs.LaneFacts.{both_ends}
use Rattle.lane_rop.proofs.fills.copy_few.Goals as goal

pub returns-then-to-ge8 : goal.returns-then-to-ge8
returns-then-to-ge8 c = let to = c.args.to.now in let from = c.args.from.now in let last = length to - 8 in
    both_ends (λ k. get_or from k 0) to (chunk 0 8 from) (chunk last 8 from) 8 last (length-chunk 0 8 from (omega (arith, c.if-to-ge8.true, c.requires.same))) (length-chunk last 8 from (omega (arith, c.if-to-ge8.true, c.requires.same)))
    (omega (arith, c.if-to-ge8.true)) (omega (arith, c.requires.few)) (λ k l. get_or-chunk 0 8 from k 0 l ∙ ap (λ j. get_or from j 0) (omega arith)) (λ k l. get_or-chunk last 8 from k 0 l)

pub returns-then-to-ge4 : goal.returns-then-to-ge4
returns-then-to-ge4 c = let to = c.args.to.now in let from = c.args.from.now in let last = length to - 4 in
    both_ends (λ k. get_or from k 0) to (chunk 0 4 from) (chunk last 4 from) 4 last (length-chunk 0 4 from (omega (arith, c.if-to-ge4.true, c.requires.same))) (length-chunk last 4 from (omega (arith, c.if-to-ge4.true, c.requires.same)))
    (omega (arith, c.if-to-ge4.true)) (omega (arith, c.if-to-ge8.false)) (λ k l. get_or-chunk 0 4 from k 0 l ∙ ap (λ j. get_or from j 0) (omega arith)) (λ k l. get_or-chunk last 4 from k 0 l)
