use Rattle.std.proofs.Common.{◌≡◌, ◌+◌, ◌-◌, sym, subst, arith}
use Rattle.script_lines.specs.Keywords.{step_of}
use Rattle.demo_run.specs.Numbers.{generator_of}
use Rattle.demo_run.specs.Asks.{IsViewer}
use Rattle.demo_run.specs.Standing.{run_of}
use Rattle.demo_run.proofs.Loops.{Reaches, reaches_first, reaches_on, reaches_end}
use Rattle.demo_run.proofs.demo.Demo.draw_steps.Goals as goal

pub loop-i-init : goal.loop-i-init
loop-i-init c = λ done s.
    let d = c.args.self.now in
    let g = generator_of c.args.seed in
    let all = c.args.steps in
    let none : all ≡ all - 0 = omega arith in
    subst (λ words. Reaches done g all (all - 0) words d) (sym c.generator_of-words.ensures)
    (subst (λ n. Reaches done g all n g d) none (reaches_first d g all done s))

pub next_step-requires : goal.next_step-requires
next_step-requires c =
    let g = c.requires in
    let r = c.loop-i.invariant g.done g.stands in
    subst IsViewer (sym (c.holder.ensures (run_of r.now) r.stands.run)) r.stands.holder

pub ask-requires-clause-going : goal.ask-requires-clause-going
ask-requires-clause-going c =
    let g = c.requires in
    let r = c.loop-i.invariant g.done g.stands in
    record { done = r.now; stands = r.stands }

pub loop-i-preserved : goal.loop-i-preserved
loop-i-preserved c = λ done s.
    let r = c.loop-i.invariant done s in
    let i = c.loop-i._i in
    let all = c.args.steps in
    let fewer : all - i ≡ (all - (i + 1)) + 1 = omega (arith, c.loop-i-test.true) in
    reaches_on done (generator_of c.args.seed) all (all - i) (all - (i + 1)) c.loop-i.words c.next_step.new.words c.loop-i.self c.ask.new.self c.holder.result
    (step_of c.in_ok-next.next.viewer c.in_ok-next.next.step) r fewer (c.holder.ensures (run_of r.now) r.stands.run) c.in_ok-next.ensures.value c.in_ok-next.ensures.after
    (c.in_ok-ask.ensures r.now r.stands)

pub returns : goal.returns
returns c = λ done s.
    let none : c.args.steps - c.loop-i._i ≡ 0 = omega (arith, c.loop-i-test.false) in
    reaches_end done (generator_of c.args.seed) c.args.steps (c.args.steps - c.loop-i._i) c.loop-i.words c.loop-i.self none (c.loop-i.invariant done s)
