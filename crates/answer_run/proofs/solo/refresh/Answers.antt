use Rattle.answer_run.proofs.Seated.{refresh_done}
use Rattle.answer_run.proofs.solo.refresh.Goals as goal
use Rattle.std.proofs.Common.{rules}

pub returns-clause-done : goal.returns-clause-done
returns-clause-done c = refresh_done c.args.solo.now.session c.refresh.new.self c.args.solo.now.seat c.args.area c.refresh.ensures.head c.refresh.ensures.journal c.refresh.ensures.asked
    c.refresh.ensures.suppressed

pub refresh-requires-clause-present : goal.refresh-requires-clause-present
refresh-requires-clause-present c = search rules
