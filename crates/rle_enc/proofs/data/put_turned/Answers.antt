use Rattle.std.proofs.Common.{arith}
use Rattle.std.proofs.lemmas.Result.{err_from_is_err_and}
use Rattle.wire_num.proofs.Sent.{sent_part}
use Rattle.px_core.proofs.Turned.{rows_left, split_is}
use Rattle.rle_enc.proofs.Bytes.{turns_at_first, row_first, turns_on, turns_done}
use Rattle.rle_enc.proofs.data.put_turned.Goals as goal

pub loop-y-init : goal.loop-y-init
loop-y-init c = turns_at_first c.args.depth c.args.w c.args.h c.args.out.now.items c.args.colors.now c.requires

pub loop-y-preserved : goal.loop-y-preserved
loop-y-preserved c =
    turns_on c.args.depth c.args.w c.args.h c.loop-y.y _ _ c.loop-y.out.items c.loop-y.above.now c.split_at.result.0.now c.split_at.result.1.now c.put_shown.new.out.items c.loop-y-test.true
    (split_is _ _ _ _ c.split_at.ensures.front c.split_at.ensures.back)
    (omega (arith, c.split_at.ensures.back_len, c.loop-y.invariant.left, rows_left c.args.w c.args.h c.loop-y.y c.loop-y-test.true)) c.in_ok-put_shown.ensures.ok c.loop-y.invariant

pub returns-in_err-put_shown-clause-memory : goal.returns-in_err-put_shown-clause-memory
returns-in_err-put_shown-clause-memory c =
    let p = err_from_is_err_and c.from_residual.result c.from_residual.ensures.1 in
    rw p.1 (sent_part _ _ _ _ _ _ _ c.loop-y.invariant.sent c.in_err-put_shown.ensures.memory
    (row_first c.args.depth c.args.w c.args.h c.loop-y.y c.loop-y.above.now c.split_at.result.0.now c.split_at.result.1.now c.loop-y-test.true c.loop-y.invariant.left
    (split_is _ _ _ _ c.split_at.ensures.front c.split_at.ensures.back)
    (omega (arith, c.split_at.ensures.back_len, c.loop-y.invariant.left, rows_left c.args.w c.args.h c.loop-y.y c.loop-y-test.true))))

pub returns-clause-ok : goal.returns-clause-ok
returns-clause-ok c = turns_done c.args.depth c.args.w c.args.h c.loop-y.y _ _ c.loop-y.out.items c.loop-y.above.now c.loop-y-test.false c.loop-y.invariant
