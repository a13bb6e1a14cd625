use Rattle.std.proofs.Common.{sym, ap, ◌∙◌, subst}
use Rattle.edge_io.specs.Outside.{input_of, output_of, outside_of}
use Rattle.serve_rules.specs.Notices.{notice_in}
use Rattle.serve_rules.specs.declared.ends.ConnEnd.{ConnEnd}
use Rattle.viewer_run.specs.Serving.{Attends, wants_last}
use Rattle.viewer_run.proofs.Attending.{attends_last, left_stopped, wants_left, last_stopped}
use Rattle.viewer_run.proofs.viewing.attend_whole.Goals as goal

pub returns-then-wants_last-clause-attends : goal.returns-then-wants_last-clause-attends
returns-then-wants_last-clause-attends g c =
    let a = c.attend-pass in
    let d = c.send_last-pass in
    let before = outside_of g.S.Source g.K.Sink c.args.halves.now.input.now c.args.halves.now.output.now in
    subst (λ (end : ConnEnd). Attends c.args.stay.now.lock.now.head c.args.stay.now.v c.args.first.seat.sender.confirmed c.args.ends.now.rest.now c.args.ends.now.conn.hearing d.new.seat.sender d.new.seat.desk c.args.pass d.result.0
    c.args.ends.now.noted a.new.ends.noted before (outside_of g.S.Source g.K.Sink a.new.halves.input.now d.new.output) end) (sym c.end_of_last.ensures)
    (attends_last c.args.stay.now.lock.now.head c.args.stay.now.v c.args.first.seat.sender.confirmed c.args.ends.now.rest.now c.args.ends.now.conn.hearing a.result.1.sender d.new.seat.sender a.result.1.desk d.new.seat.desk c.args.pass a.result.0 d.result.0
    c.args.ends.now.noted a.new.ends.noted before (input_of g.S.Source a.new.halves.input.now) (output_of g.K.Sink a.new.halves.output.now) (output_of g.K.Sink d.new.output) a.result.2 d.result.1 a.ensures.attends
    (wants_left a.result.2 (notice_in a.new.ends.noted) (sym c.wants_last.ensures ∙ c.if-wants_last.true)) d.ensures.sends d.ensures.mine d.ensures.share)

pub returns-then-wants_last-clause-whole : goal.returns-then-wants_last-clause-whole
returns-then-wants_last-clause-whole g c = λ wants here.
    let d = c.send_last-pass in
    let n = notice_in c.attend-pass.new.ends.noted in
    (d.ensures.whole here (last_stopped d.result.1 n d.ensures.sends.only (ap (λ (end : ConnEnd). wants_last end n) (sym c.end_of_last.ensures) ∙ wants)), d.ensures.found)

pub send_last-pass-requires-clause-viewer : goal.send_last-pass-requires-clause-viewer
send_last-pass-requires-clause-viewer g c =
    let r = c.attend-pass.result in
    let a = c.attend-pass.ensures.attends in
    (a.frames.after_is (left_stopped a.sent r.2 a.ended a.frames.only (wants_left r.2 (notice_in c.attend-pass.new.ends.noted) (sym c.wants_last.ensures ∙ c.if-wants_last.true)))).0

pub send_last-pass-requires-clause-idle : goal.send_last-pass-requires-clause-idle
send_last-pass-requires-clause-idle g c =
    let r = c.attend-pass.result in
    let a = c.attend-pass.ensures.attends in
    (a.frames.after_is (left_stopped a.sent r.2 a.ended a.frames.only (wants_left r.2 (notice_in c.attend-pass.new.ends.noted) (sym c.wants_last.ensures ∙ c.if-wants_last.true)))).3
