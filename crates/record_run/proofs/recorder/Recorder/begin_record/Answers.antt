use Rattle.std.proofs.Common.{◌≡◌, ◌∙◌, ap, subst}
use Rattle.session_rules.specs.Journal.{Head}
use Rattle.session_rules.specs.Steps.Step.{JoinStep}
use Rattle.session_core.specs.Heads.{rows_of}
use Rattle.session_core.specs.SessionModel.{SessionModel, new_session}
use Rattle.record_run.specs.Recorders.{Records}
use Rattle.record_run.proofs.Recorders.{not_begun, first_done}
use Rattle.record_run.proofs.recorder.Recorder.begin_record.Goals as goal

pub returns : goal.returns
returns c =
    let head : Head = record { size = c.self.inside.size; rows = rows_of c.self.inside.rows.items } in
    let none = not_begun head c.self.inside.session (rw (← c.self.view_is) at c.requires) in
    let is : c.in_ok-session.session ≡ new_session head = c.in_ok-session.ensures
    ∙ ap (λ xs. new_session (record { size = c.self.inside.size; rows = rows_of xs })) c.deref-2.ensures.value in
    let d = subst (λ (s : SessionModel). Records (JoinStep c.args.name.now) s c.join.new.session c.write_head.new.out.items c.join.new.out.items) is c.in_ok-join.ensures.done in
    rw (← c.self.view_is, none) (λ r keeps. first_done head c.join.new.session r (JoinStep c.args.name.now) c.args.out.now.items c.write_head.new.out.items c.join.new.out.items
    keeps (rw c.deref.ensures.value at c.in_ok-write_head.ensures.ok) d)
