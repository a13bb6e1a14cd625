use Rattle.std.proofs.Common.{[], ◌∷◌, sym, subst, Ok, Err, Some, true}
use Rattle.answer_run.specs.Asking.{owners_head}
use Rattle.answer_run.specs.Visits.{Comes, Visits}
use Rattle.answer_run.proofs.Visiting.{newcomer_visits}
use Rattle.answer_run.proofs.visitor.do_step.Goals as goal

pub returns-in-Ok-Some-clause-done : goal.returns-in-Ok-Some-clause-done
returns-in-Ok-Some-clause-done g c =
    let head = owners_head c.args.host.now.size c.args.host.now.owner in
    let told = g.K.Sink.told c.args.output.now in
    let telling = g.K.Sink.told c.come.new.output in
    let came : Comes (Ok (Some c.in-Ok-Some.came)) head c.in-Coming.name c.args.step told telling =
    subst (λ o. Comes (Ok o) head c.in-Coming.name c.args.step told telling) c.in-Ok-Some.field-0-is c.in-Ok-Some.ensures.done in
    subst (λ v. Visits (Ok true) head (c.args.step ∷ []) v c.in-Ok-Some.came told telling) (sym c.in-Coming.is)
    (newcomer_visits (Ok true) head c.in-Coming.name (c.args.step ∷ []) c.in-Ok-Some.came told telling came)

pub returns-in-Err-clause-done : goal.returns-in-Err-clause-done
returns-in-Err-clause-done g c =
    let head = owners_head c.args.host.now.size c.args.host.now.owner in
    let told = g.K.Sink.told c.args.output.now in
    let telling = g.K.Sink.told c.come.new.output in
    subst (λ v. Visits (Err c.in-Err.fault) head (c.args.step ∷ []) v c.args.visitor.now told telling) (sym c.in-Coming.is)
    (newcomer_visits (Err c.in-Err.fault) head c.in-Coming.name (c.args.step ∷ []) c.args.visitor.now told telling c.in-Err.ensures.done)
