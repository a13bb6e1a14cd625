use Rattle.std.proofs.Common.{List, [], ◌∷◌, ◌++◌, ◌+◌, ap, subst, drop, take, sym, ◌∙◌}
use Rattle.conn_rules.specs.declared.conn_step.ConnStep.{ConnStep}
use Rattle.viewer_run.specs.Doing.{StepsFront}
use Rattle.serve_rules.specs.Reading.{HasTurnsOf}
use Rattle.serve_rules.proofs.Lists.{drop_next, take_next}
use Rattle.serve_rules.proofs.InTurns.{turns_none}
use Rattle.viewer_run.proofs.OneStep.{step_done, step_failed, steps_at_first, turns_more}
use Rattle.viewer_run.proofs.steps.do_steps.Goals as goal

pub loop-step-init : goal.loop-step-init
loop-step-init g c = record { lock = c.requires.lock; room = c.requires.room; front = steps_at_first _ _ _ _ _; turns = turns_none c.args.pass }

pub loop-step-preserved : goal.loop-step-preserved
loop-step-preserved g c =
    let l = c.loop-step in
    let next = drop_next c.args.steps.now l.step-index c.step-item.result c.loop-step-test.true
    ∙ ap (λ (x : ConnStep). x ∷ drop (l.step-index + 1) c.args.steps.now) (sym c.step-item.is) in
    let front = subst (λ (left : List ConnStep). StepsFront c.args.stay.now.lock.now.head c.args.stay.now.v c.args.steps.now left c.args.pass l.now c.args.noted.now l.noted) next l.invariant.front in
    record {
      lock = c.do_step-next.ensures.lock;
      room = c.do_step-next.ensures.room;
      front = step_done _ _ _ _ _ _ _ _ _ _ _ c.do_step-next.result.1 front (sym c.is_err.ensures.value ∙ c.if-is_err.false) c.do_step-next.ensures.done;
      turns = subst (λ (done : List ConnStep). HasTurnsOf done c.args.pass c.do_step-next.result.0) (sym (take_next c.args.steps.now l.step-index c.step-item.result c.loop-step-test.true
          ∙ ap (λ (x : ConnStep). take l.step-index c.args.steps.now ++ x ∷ []) (sym c.step-item.is)))
          (turns_more (take l.step-index c.args.steps.now) c.step-item.result c.args.pass l.now c.do_step-next.result.0 c.do_step-next.result.1
          (sym c.is_err.ensures.value ∙ c.if-is_err.false) l.invariant.turns c.do_step-next.ensures.turns);
    }

pub returns-then-is_err-clause-done : goal.returns-then-is_err-clause-done
returns-then-is_err-clause-done g c =
    let l = c.loop-step in
    let next = drop_next c.args.steps.now l.step-index c.step-item.result c.loop-step-test.true
    ∙ ap (λ (x : ConnStep). x ∷ drop (l.step-index + 1) c.args.steps.now) (sym c.step-item.is) in
    let front = subst (λ (left : List ConnStep). StepsFront c.args.stay.now.lock.now.head c.args.stay.now.v c.args.steps.now left c.args.pass l.now c.args.noted.now l.noted) next l.invariant.front in
    let r = step_failed _ _ _ _ _ _ _ _ _ _ _ c.do_step-next.result.1 front (sym c.is_err.ensures.value ∙ c.if-is_err.true) c.do_step-next.ensures.done in
    (_, r.0, r.1)
