use Rattle.std.proofs.Common.{◌∙◌, ap, get_or, arith, Some}
use Rattle.frame_rules.specs.FrameOrders.{brush_use}
use Rattle.viewer_sender.specs.Writes.{loaded}
use Rattle.viewer_sender.proofs.CachesServe.{low_byte, brush_below}
use Rattle.viewer_sender.proofs.cached.use_brush.Goals as goal

pub returns-clause-index : goal.returns-clause-index
returns-clause-index c = λ uses stands.
    let conf = c.args.writer.now.confirmed in
    let whole = ap (λ n. loaded n c.content.result.now) c.number.ensures ∙ ap (λ bs. loaded c.args.brush.now.number bs) c.content.ensures in
    let index = c.in_ok-index.ensures.index uses stands ∙ ap (λ l. (brush_use conf uses (Some l)).index) whole in
    let below = brush_below conf uses (Some c.args.brush.now) (c.requires.whole, c.requires.colors) in
    ap (λ bytes. get_or bytes 0 0) c.to_le_bytes.ensures ∙ low_byte c.in_ok-index.index (omega (arith, index, below)) ∙ index
