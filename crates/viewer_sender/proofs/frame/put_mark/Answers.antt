use Rattle.std.proofs.Common.{◌∙◌, ◌++◌, [], ap, sym}
use Rattle.std.specs.Prelude.{true}
use Rattle.rle_enc.proofs.Pending.{on_ok_as}
use Rattle.order_means.specs.CacheOrders.{frame_marker_bytes}
use Rattle.frame_rules.specs.FrameBytes.{mark_bytes}
use Rattle.viewer_sender.specs.declared.writer.FrameWriter.{FrameWriter}
use Rattle.viewer_sender.specs.Gathering.{Gathering, gathering, closed, after_order}
use Rattle.viewer_sender.proofs.frame.put_mark.Goals as goal

pub returns-in_ok-put_marker : goal.returns-in_ok-put_marker
returns-in_ok-put_marker c =
    let w = c.args.writer.now in
    let made : Gathering → FrameWriter = λ u. record w { updates = u } in
    on_ok_as _ _ c.close.result c.close.ensures (λ e.
    ap made (e ∙ (ap closed (c.in_ok-put_marker.ensures ∙ ap (λ g. after_order g (frame_marker_bytes true)) c.requires)
    ∙ ap (λ b. gathering w.updates.fast (w.updates.packets ++ mark_bytes w.updates.fast b) [] 0 []) (sym c.if-writer.true))))
