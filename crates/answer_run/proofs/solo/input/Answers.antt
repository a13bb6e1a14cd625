use Rattle.session_rules.specs.Steps.Step.{InputStep}
use Rattle.session_rules.specs.Entering.{entry_of_step}
use Rattle.session_core.specs.SessionModel.{reached_by}
use Rattle.answer_run.specs.Asking.{client}
use Rattle.answer_run.specs.Solos.{IsSettled}
use Rattle.answer_run.proofs.Seated.{settled_journal, input_seated, input_done}
use Rattle.answer_run.proofs.solo.input.Goals as goal
use Rattle.std.proofs.Common.{rules}

pub returns-clause-seated : goal.returns-clause-seated
returns-clause-seated c =
    let old = c.args.solo.now.session in
    let settled : IsSettled c.input.result = c.in_ok-settle.ensures.settled in
    input_seated old c.input.new.self c.args.solo.now.seat c.args.event c.input.ensures.head
    (settled_journal c.input.result (entry_of_step old.head (reached_by old) (InputStep client c.args.event)) old.journal c.input.new.self.journal settled c.input.ensures.journal)
    c.requires

pub returns-clause-done : goal.returns-clause-done
returns-clause-done c =
    let old = c.args.solo.now.session in
    let settled : IsSettled c.input.result = c.in_ok-settle.ensures.settled in
    input_done old c.input.new.self c.args.solo.now.seat c.args.event c.input.ensures.head
    (settled_journal c.input.result (entry_of_step old.head (reached_by old) (InputStep client c.args.event)) old.journal c.input.new.self.journal settled c.input.ensures.journal)
    c.input.ensures.asked c.input.ensures.suppressed

pub input-requires : goal.input-requires
input-requires c = search rules
