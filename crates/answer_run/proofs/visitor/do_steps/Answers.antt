use Rattle.std.proofs.Common.{◌≡◌, ◌+◌, [], ◌∷◌, drop, ap, sym, ◌∙◌, subst, Ok}
use Rattle.answer_run.specs.Asking.{owners_head}
use Rattle.answer_run.specs.Visits.{Visits}
use Rattle.answer_run.proofs.Visiting.{next_step, step_done, steps_turned, steps_stopped}
use Rattle.answer_run.proofs.visitor.do_steps.Goals as goal

pub returns-in-Ok-false-clause-done : goal.returns-in-Ok-false-clause-done
returns-in-Ok-false-clause-done g c =
    let head = owners_head c.args.host.now.size c.args.host.now.owner in
    let steps = c.args.steps.now in
    let i = c.loop-step.step-index in
    let one = c.step-item.result in
    let next : drop i steps ≡ one ∷ drop (i + 1) steps = next_step steps i one c.loop-step-test.true ∙ ap (λ x. x ∷ drop (i + 1) steps) (sym c.step-item.is) in
    let mid = g.K.Sink.told c.loop-step.output in
    let telling = g.K.Sink.told c.do_step.new.output in
    steps_turned head steps (drop i steps) (drop (i + 1) steps) one c.args.visitor.now c.loop-step.visitor c.do_step.new.visitor c.do_step.new.visitor
    (g.K.Sink.told c.args.output.now) mid telling next c.loop-step.invariant.so_far
    (subst (λ b. Visits (Ok b) head (one ∷ []) c.loop-step.visitor c.do_step.new.visitor mid telling) c.in-Ok-false.field-0-test c.in-Ok-false.ensures.done)

pub returns-in-Err-clause-done : goal.returns-in-Err-clause-done
returns-in-Err-clause-done g c =
    let head = owners_head c.args.host.now.size c.args.host.now.owner in
    let steps = c.args.steps.now in
    let i = c.loop-step.step-index in
    let one = c.step-item.result in
    let next : drop i steps ≡ one ∷ drop (i + 1) steps = next_step steps i one c.loop-step-test.true ∙ ap (λ x. x ∷ drop (i + 1) steps) (sym c.step-item.is) in
    steps_stopped c.in-Err.fault head steps (drop i steps) (drop (i + 1) steps) one c.args.visitor.now c.loop-step.visitor c.do_step.new.visitor c.do_step.new.visitor
    (g.K.Sink.told c.args.output.now) (g.K.Sink.told c.loop-step.output) (g.K.Sink.told c.do_step.new.output) next c.loop-step.invariant.so_far c.in-Err.ensures.done

pub loop-step-preserved : goal.loop-step-preserved
loop-step-preserved g c =
    let head = owners_head c.args.host.now.size c.args.host.now.owner in
    let steps = c.args.steps.now in
    let i = c.loop-step.step-index in
    let one = c.step-item.result in
    let next : drop i steps ≡ one ∷ drop (i + 1) steps = next_step steps i one c.loop-step-test.true ∙ ap (λ x. x ∷ drop (i + 1) steps) (sym c.step-item.is) in
    let mid = g.K.Sink.told c.loop-step.output in
    let telling = g.K.Sink.told c.do_step.new.output in
    record {
      so_far = step_done head steps (drop i steps) (drop (i + 1) steps) one c.args.visitor.now c.loop-step.visitor c.do_step.new.visitor
          (g.K.Sink.told c.args.output.now) mid telling next c.loop-step.invariant.so_far
          (subst (λ b. Visits (Ok b) head (one ∷ []) c.loop-step.visitor c.do_step.new.visitor mid telling) c.in-Ok-true.field-0-test c.in-Ok-true.ensures.done);
      ready = c.in-Ok-true.ensures.ready;
      cause = c.in-Ok-true.ensures.cause ∙ c.loop-step.invariant.cause;
    }
