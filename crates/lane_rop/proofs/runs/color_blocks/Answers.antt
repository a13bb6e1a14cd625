use Rattle.std.proofs.Common.{eqb, arith}
use Rattle.lane_rop.proofs.Counting.{color_reaches}
use Rattle.lane_rop.proofs.runs.color_blocks.Goals as goal

pub returns-then-n-lt-LANES : goal.returns-then-n-lt-LANES
returns-then-n-lt-LANES c =
    let more = color_reaches (λ x. eqb x c.args.color) c.args.pixels.now c.loop-at.at c.first_other-n.result (omega (arith, c.loop-at-test.true, c.loop-at.invariant)) c.first_other-n.ensures in
    record { from = omega (arith, c.loop-at.invariant); within = more.0; reached = omega (arith, more.1, c.loop-at.invariant) }

pub loop-at-preserved : goal.loop-at-preserved
loop-at-preserved c =
    let more = color_reaches (λ x. eqb x c.args.color) c.args.pixels.now c.loop-at.at c.first_other-n.result (omega (arith, c.loop-at-test.true, c.loop-at.invariant)) c.first_other-n.ensures in
    (omega (arith, c.loop-at.invariant), more.0, omega (arith, more.1, c.loop-at.invariant))
