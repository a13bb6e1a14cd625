use Rattle.std.proofs.Common.{subst}
use Rattle.std.specs.Prelude.{All}
use Rattle.std.proofs.lemmas.List.{take_all}
use Rattle.std.proofs.lemmas.List.Elements.{All-more}
use Rattle.answer_run.specs.Visits.{HasCaches}
use Rattle.answer_run.proofs.heard.have_caches.Goals as goal

pub loop-step-preserved : goal.loop-step-preserved
loop-step-preserved c = All-more HasCaches c.args.steps.now c.loop-step.step-index c.step-item.result c.loop-step-test.true c.loop-step.invariant
    (subst HasCaches c.step-item.is c.has_caches.ensures)

pub returns : goal.returns
returns c = subst (All HasCaches) (take_all c.loop-step.step-index c.args.steps.now c.loop-step-test.false) c.loop-step.invariant
