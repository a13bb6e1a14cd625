use Rattle.std.proofs.Common.{◌∙◌, append-nil, refl, subst}
use Rattle.edge_io.specs.Outside.{output_of}
use Rattle.serve_rules.specs.declared.ends.SideEnd.{SideEnd}
use Rattle.viewer_run.specs.Sending.{SendsTaken}
use Rattle.viewer_run.proofs.OneTake.{sends_one, next_is, shown_all}
use Rattle.viewer_run.proofs.viewing.send_last.Goals as goal

pub returns-clause-sends : goal.returns-clause-sends
returns-clause-sends g c = sends_one _ _ _ _ c.take_once-pass.new.seat.sender _ _ c.take_once-pass.new.seat.desk _ _ _ _ c.take_once-pass.result.1 c.take_once-pass.ensures.taken c.requires.seen c.requires.idle
    c.args.stay.now.v c.requires.viewer c.take_once-pass.ensures.absent c.send_taken-end.ensures

pub returns-clause-mine : goal.returns-clause-mine
returns-clause-mine g c = c.take_once-pass.ensures.taken.turn.mine ∙ append-nil _

pub returns-clause-share : goal.returns-clause-share
returns-clause-share g c = c.take_once-pass.ensures.taken.turn.share

pub returns-clause-whole : goal.returns-clause-whole
returns-clause-whole g c = λ here stopped.
    let before = output_of g.K.Sink c.args.output.now in
    let now = output_of g.K.Sink c.send_taken-end.new.output in
    shown_all c.args.stay.now.lock.now.head c.take_once-pass.result.0.seen c.args.seat.now.sender c.take_once-pass.new.seat.sender c.send_taken-end.new.seat.sender c.args.seat.now.desk
    c.take_once-pass.new.seat.desk c.send_taken-end.new.seat.desk c.take_once-pass.result.1 before now c.take_once-pass.ensures.taken.takes
    (subst (λ (end : SideEnd). SendsTaken c.take_once-pass.result.1 c.take_once-pass.new.seat.sender c.send_taken-end.new.seat.sender c.take_once-pass.new.seat.desk
    c.send_taken-end.new.seat.desk before now end) stopped c.send_taken-end.ensures)
    (c.take_once-pass.ensures.whole refl here)

pub send_taken-end-requires : goal.send_taken-end-requires
send_taken-end-requires g c =
    next_is c.args.stay.now.lock.now.head c.take_once-pass.result.0.seen c.args.seat.now.sender c.take_once-pass.new.seat.sender c.args.seat.now.desk c.take_once-pass.new.seat.desk c.take_once-pass.result.1 c.requires.idle
    c.take_once-pass.ensures.taken.takes

pub returns-clause-found : goal.returns-clause-found
returns-clause-found g c = (c.args.pass.found, c.take_once-pass.ensures.taken.turn.found)
