use Rattle.viewer_run.proofs.FromFirst.{first_sent}
use Rattle.viewer_run.proofs.frames.send_first.Goals as goal

pub returns : goal.returns
returns g c head j v confirmed h =
    first_sent head j v confirmed h.0 c.args.first.seat.sender c.send_frame-end.new.seat.sender h.1 c.args.first.seat.desk c.send_frame-end.new.seat.desk c.args.first.take _ _ _ h.2 h.3 c.send_frame-end.ensures
