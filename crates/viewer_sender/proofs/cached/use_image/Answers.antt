use Rattle.std.proofs.Common.{◌∙◌, ap, subst, Some}
use Rattle.rle_enc.proofs.Pending.{on_ok_as}
use Rattle.draw_ops.specs.Content.{ImageOf}
use Rattle.draw_ops.specs.Slots.{Loaded}
use Rattle.frame_rules.specs.FrameOrders.{image_use}
use Rattle.viewer_sender.specs.Writes.{Writes, used, loaded}
use Rattle.viewer_sender.proofs.cached.use_image.Goals as goal

pub returns-clause-orders : goal.returns-clause-orders
returns-clause-orders c =
    let a = c.args.writer.now in
    let whole = ap (λ n. loaded n c.content.result.now) c.number.ensures ∙ ap (λ i. loaded c.args.image.now.number i) c.content.ensures in
    on_ok_as _ _ c.use_image.result c.use_image.ensures.orders (λ h.
    subst (λ (l : Loaded ImageOf). Writes a c.use_image.new.self (λ uses. used (image_use a.confirmed uses c.args.cache (Some l)))) whole h)
