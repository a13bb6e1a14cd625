use Rattle.std.proofs.Common.{◌∙◌, ◌+◌, ◌≤◌, ap, get_or, length, arith}
use Rattle.std.proofs.lemmas.Simd.{length-put_chunk}
use Rattle.lane_rop.specs.Sums.{added}
use Rattle.lane_rop.proofs.LaneFacts.{stored_lanes}
use Rattle.lane_rop.proofs.rows.one_blocks.Goals as goal

pub loop-d-preserved : goal.loop-d-preserved
loop-d-preserved c =
    let i = c.loop-d.i in
    let done = c.loop-d.invariant.1 in
    let room : i + 16 ≤ length c.loop-d.d = omega (arith, c.loop-d-test.true, c.loop-d.invariant) in
    let stored = stored_lanes (λ k. added (get_or c.args.d.now k 0) c.args.one c.args.more) c.args.d.now c.loop-d.d c.added_words.result i room done
    (record {
      long = c.added_words.ensures.long;
      each = λ k l. c.added_words.ensures.each k l ∙ ap (λ z. added z c.args.one c.args.more) (c.load.ensures.each k l ∙ done.behind (i + k) (omega arith));
    }) in
    (omega (arith, room, length-put_chunk i c.loop-d.d c.added_words.result), stored)
