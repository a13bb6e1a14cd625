use Rattle.std.proofs.Common.{◌∙◌, ap, sym, Ok}
use Rattle.viewer_sender.specs.Seats.{key_of, desk_after}
use Rattle.viewer_sender.proofs.SeatSends.{is_due, sent_frame}
use Rattle.viewer_sender.proofs.seat.Seat.next_frame.Goals as goal

pub returns-in-Ok-clause-sent : goal.returns-in-Ok-clause-sent
returns-in-Ok-clause-sent c =
    let old = c.args.session.now in
    let s = c.args.self.now in
    let t = c.in_ok-take.ensures in
    let made = c.in-Ok.ensures in
    sent_frame old s c.take.new.self c.encode.new.self c.in-Frame.take c.in-Ok.bytes.items _ (is_due _ old s.sender c.in-Frame.take (sym c.in-Frame.is ∙ t.taken)) t.sender
    (c.take.ensures.noted ∙ ap (λ r. desk_after r (key_of old) s.desk) (c.in_ok-take.was ∙ ap Ok c.in-Frame.is)) c.requires.idle made.bytes made.after made.rest
