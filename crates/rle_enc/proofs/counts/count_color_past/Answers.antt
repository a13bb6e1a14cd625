use Rattle.std.proofs.Common.{◌≡◌, ◌∙◌, arith}
use Rattle.rle_enc.specs.Stretch.{leading}
use Rattle.rle_enc.proofs.Counting.{leading_past, leading_within, own_run}
use Rattle.rle_enc.proofs.counts.count_color_past.Goals as goal

pub loop-n-init : goal.loop-n-init
loop-n-init c = (omega (arith, c.requires, leading_within c.args.color c.args.pixels.now), leading_past c.args.color c.args.known c.args.pixels.now c.requires)

pub returns-else-n-lt-NEAR-clause-is : goal.returns-else-n-lt-NEAR-clause-is
returns-else-n-lt-NEAR-clause-is c = c.same_run.ensures ∙ own_run c.args.color c.loop-n.n c.args.pixels.now (omega (arith, c.if-n-lt-NEAR.false)) c.loop-n.invariant.1

pub returns-else-n-lt-NEAR-clause-within : goal.returns-else-n-lt-NEAR-clause-within
returns-else-n-lt-NEAR-clause-within c =
    let all : c.same_run.result ≡ leading c.args.color c.args.pixels.now = c.same_run.ensures ∙ own_run c.args.color c.loop-n.n c.args.pixels.now (omega (arith, c.if-n-lt-NEAR.false)) c.loop-n.invariant.1 in
    omega (arith, all, leading_within c.args.color c.args.pixels.now)
