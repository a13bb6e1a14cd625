use Rattle.std.proofs.lemmas.Result.{err_from_is_err_and}
use Rattle.conn_rules.specs.declared.conn_step.ConnStep.TheVariants as step
use Rattle.conn_core.proofs.Fronts.{nothing_told, more_told, whole_told, front_told, one_left, none_left}
use Rattle.conn_core.proofs.news.tell_events.Goals as goal

pub loop-event-init : goal.loop-event-init
loop-event-init c = nothing_told _ _

pub loop-event-preserved : goal.loop-event-preserved
loop-event-preserved c = more_told _ _ _ _ _ _ _ c.loop-event.invariant (one_left step.Event c.args.events.now c.loop-event.event-index _ c.loop-event-test.true) c.in_ok-push.ensures.items

pub returns-in_err-push-clause-memory : goal.returns-in_err-push-clause-memory
returns-in_err-push-clause-memory c =
    let p = err_from_is_err_and c.from_residual.result c.from_residual.ensures.1 in
    rw (p.1, c.in_err-push.ensures.items) (front_told _ _ _ _ c.loop-event.invariant)

pub returns-clause-ok : goal.returns-clause-ok
returns-clause-ok c = whole_told _ _ _ _ c.loop-event.invariant (none_left step.Event c.args.events.now c.loop-event.event-index c.loop-event-test.false c.loop-event.auto.event-index-end)
