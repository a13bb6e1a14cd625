use Rattle.std.proofs.Common.{◌∙◌, arith}
use Rattle.rle_enc.proofs.InPlace.{cut_step, cut_done}
use Rattle.rle_enc.proofs.shown.cut_all.Goals as goal

pub loop-k-preserved : goal.loop-k-preserved
loop-k-preserved c =
    let test = c.loop-k-test.true in
    let end = c.len-k-end.ensures in
    let long = c.args.colors.ok.0 in
    cut_step c.loop-k.k c.args.colors.items c.loop-k.all.items c.index.result.now c.cut_color.result (omega (arith, test, end, long)) c.loop-k.invariant c.index.ensures c.cut_color.ensures.is

pub returns : goal.returns
returns c =
    let test = c.loop-k-test.false in
    let end = c.len-k-end.ensures in
    let long = c.args.colors.ok.0 in
    c.loop-k.invariant ∙ cut_done c.loop-k.k c.args.colors.items (omega (arith, test, end, long))
