use Rattle.viewer_run.proofs.Coming.{joined_present, joined_longer, arrived, away}
use Rattle.viewer_run.proofs.visits.join_here.Goals as goal

pub first_frame-first-requires-clause-present : goal.first_frame-first-requires-clause-present
first_frame-first-requires-clause-present c = joined_present c.args.session.now.head c.args.name.now c.in-Ok.v c.args.session.now c.join.new.self c.join.ensures.head c.in-Ok.ensures.answer c.in-Ok.ensures.journal

pub first_frame-first-requires-clause-some : goal.first_frame-first-requires-clause-some
first_frame-first-requires-clause-some c = joined_longer c.args.name.now c.in-Ok.v c.args.session.now c.join.new.self c.in-Ok.ensures.answer c.in-Ok.ensures.journal

pub returns-in-Ok-clause-came : goal.returns-in-Ok-clause-came
returns-in-Ok-clause-came c =
    arrived c.args.name.now c.args.confirmed (record { v = c.in-Ok.v; first = c.first_frame-first.result }) c.args.session.now c.join.new.self c.first_frame-first.new.session.journal
    c.join.ensures.head c.in-Ok.ensures.answer c.in-Ok.ensures.journal c.first_frame-first.ensures.journal c.first_frame-first.ensures.first

pub returns-in-Err-clause-came : goal.returns-in-Err-clause-came
returns-in-Err-clause-came c = away c.args.name.now c.in-Err.fault c.args.session.now c.join.new.self c.in-Err.ensures.answer c.in-Err.ensures.unchanged
