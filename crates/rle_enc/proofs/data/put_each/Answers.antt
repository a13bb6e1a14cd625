use Rattle.std.proofs.Common.{drop, suc}
use Rattle.std.proofs.lemmas.Result.{err_from_is_err_and}
use Rattle.px_core.specs.Pixels.{pixels_bytes}
use Rattle.wire_num.proofs.Sent.{sent_part}
use Rattle.rle_enc.proofs.Bytes.{pixel_first}
use Rattle.rle_enc.proofs.data.put_each.Goals as goal

pub returns-in_err-put_pixel-clause-memory : goal.returns-in_err-put_pixel-clause-memory
returns-in_err-put_pixel-clause-memory c =
    let p = err_from_is_err_and c.from_residual.result c.from_residual.ensures.1 in
    rw p.1 (sent_part _ _ _ _ _ (pixels_bytes c.args.depth (drop (suc c.loop-pixel.pixel-index) c.args.pixels.now)) _ c.loop-pixel.invariant c.in_err-put_pixel.ensures.memory
    (pixel_first c.args.depth c.loop-pixel.pixel-index c.args.pixels.now c.loop-pixel-test.true))
