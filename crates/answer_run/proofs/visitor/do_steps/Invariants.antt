use Rattle.std.proofs.Common.{◌≡◌, drop}
use Rattle.answer_run.specs.Asking.{owners_head}
use Rattle.answer_run.specs.Visits.{IsReady}
use Rattle.answer_run.proofs.Visiting.{VisitsSoFar}
use Rattle.answer_run.proofs.visitor.do_steps.Given as goal

-- the steps so far were done, and no fault was met
abbrev pub invariant-loop-step : goal.invariant-loop-step
invariant-loop-step g l = record {
  so_far : VisitsSoFar (owners_head l.fn.host.size l.fn.host.owner) l.steps (drop l.step-index l.steps) l.fn.visitor l.visitor (g.K.Sink.told l.fn.output) (g.K.Sink.told l.output);
  ready : IsReady l.visitor;
  cause : g.K.Sink.faults l.output ≡ g.K.Sink.faults l.fn.output;
}
