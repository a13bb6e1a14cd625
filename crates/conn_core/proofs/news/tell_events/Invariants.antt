use Rattle.std.proofs.Common.{drop}
use Rattle.std.specs.Prelude.{map}
use Rattle.conn_rules.specs.declared.conn_step.ConnStep.TheVariants as step
use Rattle.conn_core.proofs.Fronts.{ToldSoFar}
use Rattle.conn_core.proofs.news.tell_events.Given as goal

-- the events that are left
abbrev pub invariant-loop-event : goal.invariant-loop-event
invariant-loop-event l =
    ToldSoFar l.fn.steps.items l.steps.items (map (λ event. step.Event event) l.events) (map (λ event. step.Event event) (drop l.event-index l.events))
