use Rattle.std.proofs.Common.{refl}
use Rattle.std.specs.Prelude.{true, Err, List, ℕ}
use Rattle.session_rules.specs.Steps.Step.{JoinStep}
use Rattle.session_core.specs.Faults.{join_answer}
use Rattle.frame_rules.specs.Encoder.{Encoder}
use Rattle.script_rules.specs.Script.{Asked}
use Rattle.script_rules.specs.CaptureText.{Run}
use Rattle.script_run.specs.Hosts.{HostModel}
use Rattle.script_run.proofs.Joining.{join_on, refused, refused_keeps, refused_as}
use Rattle.script_run.proofs.Verdicts.{verdict_step}
use Rattle.script_run.proofs.running.Running.join.Goals as goal

pub returns-in_ok-push-in-Ok-clause-done : goal.returns-in_ok-push-in-Ok-clause-done
returns-in_ok-push-in-Ok-clause-done c =
    let e = c.in-Ok.ensures in
    let host : HostModel = record { begun = true; session = c.self.inside.session; seats = c.self.inside.seats.items } in
    let new : HostModel = record { begun = true; session = c.join.new.self; seats = c.push.new.self.items } in
    rw (← c.self.view_is) (λ run preset r.
    let k = join_on host new run c.args.name.now preset c.args.confirmed c.in-Ok.viewer c.in_ok-seat-in-Ok.seat r e.answer e.head e.journal e.asked e.suppressed e.fresh.0 e.fresh.1
    c.in_ok-push-in-Ok.ensures.items c.in_ok-seat-in-Ok.ensures in
    record { line = k.0; is_run = k.1 })

pub returns-in_ok-answer-in-Err-clause-done : goal.returns-in_ok-answer-in-Err-clause-done
returns-in_ok-answer-in-Err-clause-done c =
    let e = c.in-Err.ensures in
    let said = c.in_ok-answer-in-Err.ensures in
    let s = c.in_ok-answer-in-Err.answer in
    let name = c.args.name.now in
    let host : HostModel = record { begun = true; session = c.self.inside.session; seats = c.self.inside.seats.items } in
    let new : HostModel = record { begun = true; session = c.join.new.self; seats = c.self.inside.seats.items } in
    let why = refused s c.in-Err.fault said.verdict said.answer in
    rw (← c.self.view_is) (λ (run : Run Encoder) (preset : List (List ℕ)) r.
    let a : Asked = record { step = JoinStep name; preset = preset; confirmed = c.args.confirmed } in
    verdict_step host new run a preset s (join_answer (Err c.in-Err.fault)) r refl said.verdict said.answer e.answer e.journal e.head e.asked e.suppressed refl
    (λ is. refused_keeps host.session.head run a name why.0 (refused_as s _ why.0 is why.1)))
