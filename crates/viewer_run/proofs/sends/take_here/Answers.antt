use Rattle.std.proofs.Common.{sym, ap, ◌∙◌}
use Rattle.std.specs.Prelude.{Bool}
use Rattle.frame_plan.specs.Plans.{taken_if, asked_if}
use Rattle.session_core.specs.SessionModel.{SessionModel, asked_by}
use Rattle.viewer_sender.specs.Senders.{desk_of}
use Rattle.viewer_run.proofs.OneTake.{of_seat, took}
use Rattle.viewer_run.proofs.Coming.{up_to_date, here_stays, taken_stays}
use Rattle.viewer_run.proofs.Asked.{away_finds, same_but_stopped, took_due, served_due, kept_due, suppressed_here, suppressed_away, stopped_same, refused_same}
use Rattle.viewer_run.proofs.sends.take_here.Goals as goal

pub take-requires-clause-present : goal.take-requires-clause-present
take-requires-clause-present g c =
    here_stays c.args.session.now c.allow_for.new.session c.args.seat.now.sender.v c.args.stay.now.v c.allow_for.ensures.head c.allow_for.ensures.journal c.requires.viewer (sym c.present.ensures ∙ c.if-not-present.false)

pub returns-clause-taken : goal.returns-clause-taken
returns-clause-taken g c =
    let t = c.take in
    let old = c.args.seat.now in
    let mid = c.allow_for.new.session in
    taken_stays c.args.session.now mid old.sender t.new.self.sender old.desk t.new.self.desk t.result c.allow_for.ensures.head c.allow_for.ensures.journal
    (took mid t.new.session old.sender t.new.self.sender old.desk t.new.self.desk t.result t.ensures.taken t.ensures.own t.ensures.sender
    (of_seat t.result mid t.new.session old t.new.self t.ensures.unchanged) t.ensures.noted)

pub returns-clause-work : goal.returns-clause-work
returns-clause-work g c =
    let a = c.allow_for.ensures in
    took_due c.args.session.now c.args.seat.now.sender c.args.stay.now.v c.requires.viewer c.allow_for.new.session
    (same_but_stopped c.args.session.now c.allow_for.new.session a.head a.journal a.asked) (sym c.present.ensures ∙ c.if-not-present.false)
    c.args.due c.take.result a.suppressed c.take.ensures.taken

pub returns-clause-asked : goal.returns-clause-asked
returns-clause-asked g c =
    let a = c.allow_for.ensures in
    served_due c.args.session.now c.args.seat.now.sender c.args.stay.now.v c.requires.viewer c.allow_for.new.session
    (same_but_stopped c.args.session.now c.allow_for.new.session a.head a.journal a.asked) (sym c.present.ensures ∙ c.if-not-present.false)
    c.args.due c.take.new.session c.take.result a.suppressed c.take.ensures.asked

pub returns-clause-kept : goal.returns-clause-kept
returns-clause-kept g c =
    let a = c.allow_for.ensures in
    kept_due c.args.session.now c.args.seat.now.sender c.args.stay.now.v c.requires.viewer c.allow_for.new.session
    (same_but_stopped c.args.session.now c.allow_for.new.session a.head a.journal a.asked) (sym c.present.ensures ∙ c.if-not-present.false)
    c.take.new.session c.take.new.self.sender c.take.result
    (of_seat c.take.result c.allow_for.new.session c.take.new.session c.args.seat.now c.take.new.self c.take.ensures.unchanged)

pub returns-clause-suppressed : goal.returns-clause-suppressed
returns-clause-suppressed g c =
    stopped_same c.take.new.session c.allow_for.new.session c.take.ensures.suppressed
    ∙ (c.allow_for.ensures.suppressed
    ∙ suppressed_here c.args.session.now c.args.seat.now.sender c.args.stay.now.v c.requires.viewer c.args.due (sym c.present.ensures ∙ c.if-not-present.false))

pub returns-clause-unstopped : goal.returns-clause-unstopped
returns-clause-unstopped g c = λ next. c.take.ensures.suppressed ∙ ap (λ (s : SessionModel). s.suppressed) (c.allow_for.ensures.same next)

pub returns-clause-unchanged : goal.returns-clause-unchanged
returns-clause-unchanged g c = λ next. refused_same c.take.result c.take.new.session c.allow_for.new.session c.args.session.now c.args.seat.now.sender c.take.new.self.sender
    (c.allow_for.ensures.same next) (of_seat c.take.result c.allow_for.new.session c.take.new.session c.args.seat.now c.take.new.self c.take.ensures.unchanged)

pub returns-clause-whole : goal.returns-clause-whole
returns-clause-whole g c = λ last here none. up_to_date c.args.session.now c.allow_for.new.session c.args.seat.now.sender c.args.stay.now.v c.args.due c.take.result c.requires.viewer last
    c.allow_for.ensures.suppressed c.allow_for.ensures.journal c.take.ensures.taken none

pub returns-then-not-present-clause-work : goal.returns-then-not-present-clause-work
returns-then-not-present-clause-work g c =
    ap (λ (b : Bool). taken_if b c.args.session.now (desk_of c.args.seat.now.sender))
    (sym (away_finds c.args.session.now c.args.seat.now.sender c.args.stay.now.v c.requires.viewer c.args.due (sym c.present.ensures ∙ c.if-not-present.true)))

pub returns-then-not-present-clause-asked : goal.returns-then-not-present-clause-asked
returns-then-not-present-clause-asked g c =
    ap (λ (b : Bool). asked_if b c.args.stay.now.v (asked_by c.args.session.now))
    (sym (away_finds c.args.session.now c.args.seat.now.sender c.args.stay.now.v c.requires.viewer c.args.due (sym c.present.ensures ∙ c.if-not-present.true)))

pub returns-then-not-present-clause-suppressed : goal.returns-then-not-present-clause-suppressed
returns-then-not-present-clause-suppressed g c =
    suppressed_away c.args.session.now c.args.seat.now.sender c.args.stay.now.v c.requires.viewer c.args.due (sym c.present.ensures ∙ c.if-not-present.true)
