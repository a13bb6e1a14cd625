use Rattle.std.proofs.Common.{◌≡◌, ◌∙◌, ◌+◌, ◌≤◌, get_or, length, arith}
use Rattle.std.proofs.lemmas.Simd.{length-put_chunk}
use Rattle.rop3_core.specs.Rop3.{ternary_raster}
use Rattle.lane_rop.specs.Sums.{added, sum_of_two}
use Rattle.lane_rop.proofs.LaneFacts.{stored_lanes}
use Rattle.lane_rop.proofs.rows.three_blocks.Goals as goal

pub loop-d-preserved : goal.loop-d-preserved
loop-d-preserved c =
    let i = c.loop-d.i in
    let done = c.loop-d.invariant.1 in
    let sums = c.args.sums.now in
    let room : i + 16 ≤ length c.loop-d.d = omega (arith, c.loop-d-test.true, c.loop-d.invariant) in
    let stored = stored_lanes (λ k. ternary_raster sums.code (get_or c.args.p.now k 0) (get_or c.args.s.now k 0) (get_or c.args.d.now k 0)) c.args.d.now c.loop-d.d c.added_lanes.result i room done
    (record {
      long = c.added_lanes.ensures.long;
      each = λ k l.
          let old : get_or c.load-destination.result k 0 ≡ get_or c.args.d.now (i + k) 0 = c.load-destination.ensures.each k l ∙ done.behind (i + k) (omega arith) in
          c.added_lanes.ensures.each k l
          ∙ (λ j. added (c.load.ensures.each k l j)
          ((c.sum_lanes-low.ensures.each k l ∙ (λ m. sum_of_two sums.low (c.load-source.ensures.each k l m) (old m))) j)
          ((c.sum_lanes-high.ensures.each k l ∙ (λ m. sum_of_two sums.high (c.load-source.ensures.each k l m) (old m))) j))
          ∙ sums.of_code (get_or c.args.p.now (i + k) 0) (get_or c.args.s.now (i + k) 0) (get_or c.args.d.now (i + k) 0);
    }) in
    (omega (arith, room, length-put_chunk i c.loop-d.d c.added_lanes.result), stored)
