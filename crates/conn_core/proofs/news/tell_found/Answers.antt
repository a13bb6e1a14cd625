use Rattle.std.proofs.Common.{List, ◌++◌, ap, subst, ◌∙◌}
use Rattle.std.proofs.lemmas.Result.{err_from_is_err_and}
use Rattle.px_core.specs.declared.rectangle.Rect.{Rect}
use Rattle.input_pdu.specs.declared.event.Event.{Event}
use Rattle.conn_rules.specs.Told.{event_steps, area_steps}
use Rattle.conn_core.specs.Feeds.{TellsFront}
use Rattle.conn_core.proofs.Fronts.{told_before, told_after}
use Rattle.conn_core.proofs.news.tell_found.Goals as goal

pub returns-in_err-tell_events-clause-memory : goal.returns-in_err-tell_events-clause-memory
returns-in_err-tell_events-clause-memory c =
    let p = err_from_is_err_and c.from_residual.result c.from_residual.ensures.1 in
    rw p.1 (told_before _ (event_steps c.args.found.now.events.items) (area_steps c.args.found.now.areas.items) _
    (subst (λ (xs : List Event). TellsFront c.args.steps.now.items (event_steps xs) c.tell_events.new.steps.items) c.deref.ensures.value c.in_err-tell_events.ensures.memory))

pub returns-in_err-tell_areas-clause-memory : goal.returns-in_err-tell_areas-clause-memory
returns-in_err-tell_areas-clause-memory c =
    let p = err_from_is_err_and c.from_residual-in_err-tell_areas.result c.from_residual-in_err-tell_areas.ensures.1 in
    rw p.1 (told_after _ (event_steps c.args.found.now.events.items) (area_steps c.args.found.now.areas.items) c.tell_events.new.steps.items _
    (c.in_ok-tell_events.ensures.ok ∙ ap (λ (xs : List Event). c.args.steps.now.items ++ event_steps xs) c.deref.ensures.value)
    (subst (λ (xs : List Rect). TellsFront c.tell_events.new.steps.items (area_steps xs) c.tell_areas.new.steps.items) c.deref-2.ensures.value c.in_err-tell_areas.ensures.memory))
