use Rattle.std.proofs.Common.{◌∙◌, ◌++◌, length, drop, ap}
use Rattle.viewer_sender.proofs.Begun.{count_put}
use Rattle.viewer_sender.proofs.framing.put_orders_count.Goals as goal

pub returns-clause-data : goal.returns-clause-data
returns-clause-data c =
    let room = c.requires.room in
    count_put c.args.user.now c.copy_from_slice.new.self room (ap length c.copy_from_slice.ensures.after ∙ ap length c.to_le_bytes-counted.ensures)
    ∙ ap (λ h. h ++ drop 26 c.args.user.now) (c.copy_from_slice.ensures.after ∙ c.to_le_bytes-counted.ensures)
