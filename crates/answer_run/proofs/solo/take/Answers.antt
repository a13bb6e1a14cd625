use Rattle.std.proofs.Common.{sym, subst}
use Rattle.viewer_sender.specs.Seats.{bytes_given}
use Rattle.answer_run.specs.Solos.{Takes}
use Rattle.answer_run.proofs.Framed.{next_taken, next_seated}
use Rattle.answer_run.proofs.Seated.{solo_of}
use Rattle.answer_run.proofs.solo.take.Goals as goal

pub returns-clause-seated : goal.returns-clause-seated
returns-clause-seated c =
    let e = c.in_ok-sent.ensures in
    next_seated c.args.solo.now.session c.next_frame.new.session c.args.solo.now.seat c.next_frame.new.self (bytes_given c.in_ok-sent.sent) c.requires.number e.head e.journal
    e.suppressed c.requires e.sent

pub returns-clause-taken : goal.returns-clause-taken
returns-clause-taken c =
    let e = c.in_ok-sent.ensures in
    let old = c.args.solo.now in
    subst (λ b. Takes b old (solo_of c.next_frame.new.session c.next_frame.new.self)) (sym c.all_given.ensures)
    (next_taken old.session c.next_frame.new.session old.seat c.next_frame.new.self (bytes_given c.in_ok-sent.sent) c.requires.number e.head e.journal
    e.suppressed e.asked e.sent)
