use Rattle.std.proofs.Common.{refl}
use Rattle.std.specs.Prelude.{true}
use Rattle.session_rules.specs.Steps.Step.{InputStep}
use Rattle.script_rules.specs.Script.{without_preset}
use Rattle.script_run.specs.Hosts.{HostModel}
use Rattle.script_run.proofs.StepsOn.{asked_same, suppressed_same, input_keeps}
use Rattle.script_run.proofs.Verdicts.{verdict_step, verdict_told}
use Rattle.script_run.proofs.running.Running.input.Goals as goal

pub returns-clause-done : goal.returns-clause-done
returns-clause-done c =
    let s = c.self.inside.session in
    let t = c.input.new.self in
    let e = c.input.ensures in
    let said = c.in_ok-answer.ensures in
    let host : HostModel = record { begun = true; session = s; seats = c.self.inside.seats.items } in
    let new : HostModel = record { begun = true; session = t; seats = c.self.inside.seats.items } in
    let a = without_preset (InputStep c.args.viewer c.args.event) in
    rw (← c.self.view_is) (λ run preset r. verdict_step host new run a preset c.in_ok-answer.answer _ r refl said.verdict said.answer e.answer e.journal e.head
    (asked_same s t e.asked) (suppressed_same s t e.suppressed) refl (λ _. input_keeps s.head run a c.args.viewer c.args.event))

pub returns-clause-told : goal.returns-clause-told
returns-clause-told c =
    let host : HostModel = record { begun = true; session = c.self.inside.session; seats = c.self.inside.seats.items } in
    let said = c.in_ok-answer.ensures in
    rw (← c.self.view_is) (λ run r. verdict_told host run (without_preset (InputStep c.args.viewer c.args.event)) c.in_ok-answer.answer _ r refl said.verdict said.answer c.input.ensures.answer)
