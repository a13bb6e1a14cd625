use Rattle.std.proofs.Common.{◌+◌, ◌≤◌, length, arith, rules}
use Rattle.lane_rop.proofs.Counting.{back_reaches}
use Rattle.lane_rop.proofs.runs.back_blocks.Goals as goal

pub overflow_add-at : goal.overflow_add-at
overflow_add-at c =
    let more = back_reaches c.args.pixels.now c.args.above.now c.loop-at.at c.first_changed-n.result (omega (arith, c.loop-at-test.true, c.loop-at.invariant)) c.first_changed-n.ensures in
    let few : c.loop-at.at + c.first_changed-n.result ≤ length c.args.pixels.now = more.0 in
    search rules

pub returns-then-n-lt-LANES : goal.returns-then-n-lt-LANES
returns-then-n-lt-LANES c =
    let more = back_reaches c.args.pixels.now c.args.above.now c.loop-at.at c.first_changed-n.result (omega (arith, c.loop-at-test.true, c.loop-at.invariant)) c.first_changed-n.ensures in
    record { from = omega (arith, c.loop-at.invariant); within = more.0; reached = omega (arith, more.1, c.loop-at.invariant) }

pub loop-at-preserved : goal.loop-at-preserved
loop-at-preserved c =
    let more = back_reaches c.args.pixels.now c.args.above.now c.loop-at.at c.first_changed-n.result (omega (arith, c.loop-at-test.true, c.loop-at.invariant)) c.first_changed-n.ensures in
    (omega (arith, c.loop-at.invariant), more.0, omega (arith, more.1, c.loop-at.invariant))
