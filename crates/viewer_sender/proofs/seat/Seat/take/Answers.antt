use Rattle.std.proofs.Common.{◌∙◌, ap}
use Rattle.viewer_sender.specs.Seats.{desk_after}
use Rattle.viewer_sender.proofs.SeatSends.{same_key}
use Rattle.viewer_sender.proofs.seat.Seat.take.Goals as goal

pub returns-clause-noted : goal.returns-clause-noted
returns-clause-noted c =
    let t = c.take-taken in
    rw (← c.self.view_is) (c.note_taken.ensures ∙ ap (λ key. desk_after t.result key c.self.inside.desk)
    (same_key c.args.session.now t.new.session t.ensures.head t.ensures.journal))
