use Rattle.std.proofs.Common.{◌∙◌, append-nil}
use Rattle.viewer_run.proofs.OneTake.{sends_one, next_is}
use Rattle.viewer_run.proofs.sends.send_once.Goals as goal

pub returns-clause-sends : goal.returns-clause-sends
returns-clause-sends g c = sends_one _ _ _ _ c.take_once-pass.new.seat.sender _ _ c.take_once-pass.new.seat.desk _ _ _ _ c.take_once-pass.result.1 c.take_once-pass.ensures.taken c.requires.seen c.requires.idle
    c.args.stay.now.v c.requires.viewer c.take_once-pass.ensures.absent c.send_taken-end.ensures

pub returns-clause-mine : goal.returns-clause-mine
returns-clause-mine g c = c.take_once-pass.ensures.taken.turn.mine ∙ append-nil _

pub returns-clause-share : goal.returns-clause-share
returns-clause-share g c = c.take_once-pass.ensures.taken.turn.share

pub send_taken-end-requires : goal.send_taken-end-requires
send_taken-end-requires g c =
    next_is c.args.stay.now.lock.now.head c.take_once-pass.result.0.seen c.args.seat.now.sender c.take_once-pass.new.seat.sender c.args.seat.now.desk c.take_once-pass.new.seat.desk c.take_once-pass.result.1 c.requires.idle
    c.take_once-pass.ensures.taken.takes
