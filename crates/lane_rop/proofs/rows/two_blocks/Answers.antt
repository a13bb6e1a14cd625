use Rattle.std.proofs.Common.{◌≡◌, ◌∙◌, ◌+◌, ◌≤◌, get_or, length, arith}
use Rattle.std.proofs.lemmas.Simd.{length-put_chunk}
use Rattle.lane_rop.specs.Sums.{sum_of_two}
use Rattle.lane_rop.proofs.LaneFacts.{stored_lanes}
use Rattle.lane_rop.proofs.rows.two_blocks.Goals as goal

pub loop-d-preserved : goal.loop-d-preserved
loop-d-preserved c =
    let i = c.loop-d.i in
    let done = c.loop-d.invariant.1 in
    let room : i + 16 ≤ length c.loop-d.d = omega (arith, c.loop-d-test.true, c.loop-d.invariant) in
    let stored = stored_lanes (λ k. sum_of_two c.args.words.now (get_or c.args.x.now k 0) (get_or c.args.d.now k 0)) c.args.d.now c.loop-d.d c.sum_lanes.result i room done
    (record {
      long = c.sum_lanes.ensures.long;
      each = λ k l.
          let old : get_or c.load-in-loop-d.result k 0 ≡ get_or c.args.d.now (i + k) 0 = c.load-in-loop-d.ensures.each k l ∙ done.behind (i + k) (omega arith) in
          c.sum_lanes.ensures.each k l ∙ (λ j. sum_of_two c.args.words.now (c.load.ensures.each k l j) (old j));
    }) in
    (omega (arith, room, length-put_chunk i c.loop-d.d c.sum_lanes.result), stored)
