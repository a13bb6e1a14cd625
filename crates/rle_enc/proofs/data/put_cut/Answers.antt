use Rattle.std.proofs.Common.{◌+◌, drop}
use Rattle.std.proofs.lemmas.Result.{err_from_is_err_and}
use Rattle.px_core.specs.declared.depth.Depth.TheVariants.{Bits16}
use Rattle.wire_num.proofs.Sent.{sent_piece, sent_part}
use Rattle.rle_enc.proofs.Bytes.{shown_bytes, color_first}
use Rattle.rle_enc.proofs.data.put_cut.Goals as goal

pub loop-color-preserved : goal.loop-color-preserved
loop-color-preserved c =
    let rest = shown_bytes Bits16 (drop (c.loop-color.color-index + 1) c.args.colors.now) in
    sent_piece _ _ _ _ _ rest _ c.loop-color.invariant c.in_ok-put_two.ensures.ok
    (color_first Bits16 c.loop-color.color-index c.args.colors.now c.cut_color.result c.cut_color.ensures.is c.loop-color-test.true)

pub returns-in_err-put_two-clause-memory : goal.returns-in_err-put_two-clause-memory
returns-in_err-put_two-clause-memory c =
    let p = err_from_is_err_and c.from_residual.result c.from_residual.ensures.1 in
    let rest = shown_bytes Bits16 (drop (c.loop-color.color-index + 1) c.args.colors.now) in
    rw p.1 (sent_part _ _ _ _ _ rest _ c.loop-color.invariant c.in_err-put_two.ensures.memory
    (color_first Bits16 c.loop-color.color-index c.args.colors.now c.cut_color.result c.cut_color.ensures.is c.loop-color-test.true))
