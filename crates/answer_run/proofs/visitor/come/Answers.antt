use Rattle.std.proofs.Common.{sym, subst, Ok, Err, Some}
use Rattle.answer_run.specs.Asking.{owners_head}
use Rattle.answer_run.specs.Solos.{Joins}
use Rattle.answer_run.specs.Visits.{Comes}
use Rattle.answer_run.specs.declared.visitor.Visitor.TheVariants as visitor
use Rattle.answer_run.proofs.Visiting.{ready_comes, ready_stops}
use Rattle.answer_run.proofs.visitor.come.Goals as goal

pub returns-in-Ok-clause-done : goal.returns-in-Ok-clause-done
returns-in-Ok-clause-done g c =
    let head = owners_head c.args.host.now.size c.args.host.now.owner in
    let joins : Joins head c.args.name.now c.in-Ready.confirmed (Some c.in-Ok-Some.solo) =
    subst (Joins head c.args.name.now c.in-Ready.confirmed) c.in-Ok-Some.field-0-is c.in-Ok-Some.ensures in
    subst (λ one. Comes (Ok (Some (visitor.Viewing c.show.new.solo))) head c.args.name.now one (g.K.Sink.told c.args.output.now) (g.K.Sink.told c.show.new.output)) (sym c.in-Ready.is)
    (ready_comes head c.args.name.now c.in-Ready.confirmed c.in-Ok-Some.solo c.show.new.solo (g.K.Sink.told c.args.output.now) (g.K.Sink.told c.show.new.output) joins c.in-Ok.ensures.done)

pub returns-in-Err-show-clause-done : goal.returns-in-Err-show-clause-done
returns-in-Err-show-clause-done g c =
    let head = owners_head c.args.host.now.size c.args.host.now.owner in
    let joins : Joins head c.args.name.now c.in-Ready.confirmed (Some c.in-Ok-Some.solo) =
    subst (Joins head c.args.name.now c.in-Ready.confirmed) c.in-Ok-Some.field-0-is c.in-Ok-Some.ensures in
    subst (λ one. Comes (Err c.in-Err-show.fault) head c.args.name.now one (g.K.Sink.told c.args.output.now) (g.K.Sink.told c.show.new.output)) (sym c.in-Ready.is)
    (ready_stops c.in-Err-show.fault head c.args.name.now c.in-Ready.confirmed c.in-Ok-Some.solo c.show.new.solo (g.K.Sink.told c.args.output.now) (g.K.Sink.told c.show.new.output) joins
    c.in-Err-show.ensures.done)
