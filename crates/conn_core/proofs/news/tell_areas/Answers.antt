use Rattle.std.proofs.lemmas.Result.{err_from_is_err_and}
use Rattle.conn_rules.specs.declared.conn_step.ConnStep.TheVariants as step
use Rattle.conn_core.proofs.Fronts.{nothing_told, more_told, whole_told, front_told, one_left, none_left}
use Rattle.conn_core.proofs.news.tell_areas.Goals as goal

pub loop-area-init : goal.loop-area-init
loop-area-init c = nothing_told _ _

pub loop-area-preserved : goal.loop-area-preserved
loop-area-preserved c = more_told _ _ _ _ _ _ _ c.loop-area.invariant (one_left step.Refresh c.args.areas.now c.loop-area.area-index _ c.loop-area-test.true) c.in_ok-push.ensures.items

pub returns-in_err-push-clause-memory : goal.returns-in_err-push-clause-memory
returns-in_err-push-clause-memory c =
    let p = err_from_is_err_and c.from_residual.result c.from_residual.ensures.1 in
    rw (p.1, c.in_err-push.ensures.items) (front_told _ _ _ _ c.loop-area.invariant)

pub returns-clause-ok : goal.returns-clause-ok
returns-clause-ok c = whole_told _ _ _ _ c.loop-area.invariant (none_left step.Refresh c.args.areas.now c.loop-area.area-index c.loop-area-test.false c.loop-area.auto.area-index-end)
