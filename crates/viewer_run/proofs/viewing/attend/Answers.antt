use Rattle.std.proofs.Common.{◌≡◌, length, subst, arith}
use Rattle.std.specs.Prelude.{Ok}
use Rattle.frame_plan.specs.declared.taken.Taken.TheVariants.{Frame}
use Rattle.viewer_run.specs.Frames.{FirstSent}
use Rattle.viewer_run.proofs.OneTake.{next_is}
use Rattle.viewer_run.proofs.Attending.{attends_cut, attends_all}
use Rattle.viewer_run.proofs.viewing.attend.Goals as goal

pub send_first-seat-requires-clause-next : goal.send_first-seat-requires-clause-next
send_first-seat-requires-clause-next g c =
    let x = c.requires.first in
    (next_is c.args.stay.now.lock.now.head c.args.pass.seen x.0 c.args.first.seat.sender x.1 c.args.first.seat.desk (Ok (Frame c.args.first.take)) x.2.idle x.3).0

pub send_first-seat-requires-clause-own : goal.send_first-seat-requires-clause-own
send_first-seat-requires-clause-own g c =
    let x = c.requires.first in
    (next_is c.args.stay.now.lock.now.head c.args.pass.seen x.0 c.args.first.seat.sender x.1 c.args.first.seat.desk (Ok (Frame c.args.first.take)) x.2.idle x.3).1

pub returns-in-Done-clause-attends : goal.returns-in-Done-clause-attends
returns-in-Done-clause-attends g c =
    let r = c.send_first-seat in
    attends_cut _ _ _ _ _ r.result.0.sender r.result.0.desk c.args.pass c.args.ends.now.noted _ _ _ c.in-Done.end c.requires.room
    (subst (FirstSent c.args.stay.now.lock.now.head c.args.stay.now.v c.args.first.seat.sender.confirmed c.args.pass.seen r.result.0.sender r.result.0.desk _ _) c.in-Done.is
    (r.ensures c.args.stay.now.lock.now.head c.args.pass.seen c.args.stay.now.v c.args.first.seat.sender.confirmed c.requires.first))

pub returns-in-Stopped-clause-attends : goal.returns-in-Stopped-clause-attends
returns-in-Stopped-clause-attends g c =
    let r = c.send_first-seat in
    attends_all _ _ _ _ _ r.result.0.sender _ r.result.0.desk _ c.args.pass _ _ _ _ _ _ _ _
    (subst (FirstSent c.args.stay.now.lock.now.head c.args.stay.now.v c.args.first.seat.sender.confirmed c.args.pass.seen r.result.0.sender r.result.0.desk _ _) c.in-Stopped.is
    (r.ensures c.args.stay.now.lock.now.head c.args.pass.seen c.args.stay.now.v c.args.first.seat.sender.confirmed c.requires.first))
    c.serve_sides-pass.ensures.serves

pub serve_sides-pass-requires-clause-viewer : goal.serve_sides-pass-requires-clause-viewer
serve_sides-pass-requires-clause-viewer g c = λ κs lives.
    ((c.send_first-seat.ensures c.args.stay.now.lock.now.head c.args.pass.seen c.args.stay.now.v c.args.first.seat.sender.confirmed c.requires.first).after_is c.in-Stopped.is).0

pub serve_sides-pass-requires-clause-idle : goal.serve_sides-pass-requires-clause-idle
serve_sides-pass-requires-clause-idle g c = λ κs lives.
    ((c.send_first-seat.ensures c.args.stay.now.lock.now.head c.args.pass.seen c.args.stay.now.v c.args.first.seat.sender.confirmed c.requires.first).after_is c.in-Stopped.is).3

pub serve_sides-pass-requires-clause-seen : goal.serve_sides-pass-requires-clause-seen
serve_sides-pass-requires-clause-seen g c =
    let n : c.send_first-seat.result.0.sender.number ≡ length c.args.pass.seen
    = ((c.send_first-seat.ensures c.args.stay.now.lock.now.head c.args.pass.seen c.args.stay.now.v c.args.first.seat.sender.confirmed c.requires.first).after_is c.in-Stopped.is).2 in
    omega (arith, n)
