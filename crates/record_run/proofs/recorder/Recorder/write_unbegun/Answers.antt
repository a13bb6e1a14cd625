use Rattle.std.proofs.Common.{◌∙◌, ◌++◌, ap}
use Rattle.session_rules.specs.Journal.{Head}
use Rattle.session_core.specs.Heads.{rows_of}
use Rattle.record_run.proofs.Recorders.{on_ok, unbegun_text, begun_text}
use Rattle.record_run.proofs.recorder.Recorder.write_unbegun.Goals as goal

pub returns-in-Some : goal.returns-in-Some
returns-in-Some c = rw (← c.self.view_is, c.in-Some.is) (λ r keeps. begun_text c.in-Some.field-0 r c.args.out.now.items keeps)

pub returns-in-None : goal.returns-in-None
returns-in-None c =
    let head : Head = record { size = c.self.inside.size; rows = rows_of c.self.inside.rows.items } in
    rw (← c.self.view_is, c.in-None.is)
    (on_ok c.write_head.result (λ w r keeps. (rw c.deref.ensures.value at w) ∙ ap (λ t. c.args.out.now.items ++ t) (unbegun_text head r keeps)) c.write_head.ensures.ok)
