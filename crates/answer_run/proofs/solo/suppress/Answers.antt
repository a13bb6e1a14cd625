use Rattle.answer_run.proofs.Seated.{suppress_done}
use Rattle.answer_run.proofs.solo.suppress.Goals as goal

pub returns-clause-done : goal.returns-clause-done
returns-clause-done c = suppress_done c.args.solo.now.session c.suppress.new.self c.args.solo.now.seat c.args.stop c.suppress.ensures.head c.suppress.ensures.journal
    c.suppress.ensures.asked c.suppress.ensures.suppressed
