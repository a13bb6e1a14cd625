use Rattle.std.proofs.Common.{◌+◌, ◌-◌, ◌≤◌, length, get_or, arith}
use Rattle.std.proofs.lemmas.Simd.{length-put_chunk}
use Rattle.lane_rop.proofs.LaneFacts.{more_lanes}
use Rattle.lane_rop.proofs.fills.copy_blocks.Goals as goal

pub loop-at-preserved : goal.loop-at-preserved
loop-at-preserved c = let at = c.loop-at.at in let to = c.loop-at.to in
    let room : at + 16 ≤ length to = omega (arith, c.loop-at-test.true, c.loop-at.auto.to, c.requires) in
    record {
      made = more_lanes (λ k. get_or c.args.from.now k 0) to c.load.result at room c.loop-at.invariant.made c.load.ensures;
      within = omega (arith, c.loop-at-test.true, c.loop-at.auto.to, c.requires, length-put_chunk at to c.load.result);
    }

pub returns : goal.returns
returns c = let to = c.loop-at.to in let last = length c.args.to.now - 16 in
    let room : last + 16 ≤ length to = omega (arith, c.loop-at.auto.to, c.requires) in
    λ k below. more_lanes (λ k. get_or c.args.from.now k 0) to c.load-2.result last room (λ j less. c.loop-at.invariant.made j (omega (arith, less, c.loop-at-test.false)))
    c.load-2.ensures k (omega (arith, below, c.requires))
