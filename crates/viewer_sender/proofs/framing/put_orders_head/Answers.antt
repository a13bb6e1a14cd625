use Rattle.std.proofs.Common.{◌∙◌, ◌++◌, length, drop, ap}
use Rattle.share_pdu.specs.Share.{share_bytes}
use Rattle.viewer_sender.proofs.Begun.{head_put}
use Rattle.viewer_sender.proofs.framing.put_orders_head.Goals as goal

pub returns : goal.returns
returns c =
    let room = c.requires.room in
    c.put_headers.ensures
    ∙ (ap (share_bytes 2) (head_put c.args.user.now c.copy_from_slice.new.self room (ap length c.copy_from_slice.ensures.after ∙ ap length c.orders_head-head.ensures))
    ∙ ap (λ h. share_bytes 2 (h ++ drop 26 c.args.user.now)) (c.copy_from_slice.ensures.after ∙ c.orders_head-head.ensures))
