use Rattle.std.proofs.Common.{refl, subst}
use Rattle.std.specs.Prelude.{true}
use Rattle.session_rules.specs.Steps.Step.{DrawStep}
use Rattle.script_rules.specs.Script.{without_preset}
use Rattle.frame_rules.specs.Encoder.{Encoder}
use Rattle.script_rules.specs.CaptureText.{Run}
use Rattle.script_run.specs.Answers.{SaysOutcome}
use Rattle.script_run.specs.Runs.{IsRunOf}
use Rattle.script_run.specs.Hosts.{HostModel}
use Rattle.script_run.proofs.StepsOn.{asked_same, suppressed_same, draw_keeps}
use Rattle.script_run.proofs.Verdicts.{verdict_step, verdict_told}
use Rattle.script_run.proofs.running.Running.draw.Goals as goal

pub returns-clause-done : goal.returns-clause-done
returns-clause-done c =
    let s = c.self.inside.session in
    let t = c.draw.new.self in
    let e = c.draw.ensures in
    let said = c.in_ok-answer.ensures in
    let host : HostModel = record { begun = true; session = s; seats = c.self.inside.seats.items } in
    let new : HostModel = record { begun = true; session = t; seats = c.self.inside.seats.items } in
    let a = without_preset (DrawStep c.args.viewer c.args.drawing) in
    rw (← c.self.view_is) (λ run preset r. verdict_step host new run a preset c.in_ok-answer.answer _ r refl said.verdict said.answer e.answer e.journal e.head
    (asked_same s t e.asked) (suppressed_same s t e.suppressed) refl (λ _. draw_keeps s.head run a c.args.viewer c.args.drawing))

pub returns-clause-told : goal.returns-clause-told
returns-clause-told c =
    let host : HostModel = record { begun = true; session = c.self.inside.session; seats = c.self.inside.seats.items } in
    let said = c.in_ok-answer.ensures in
    subst (λ (h : HostModel). (run : Run Encoder) → IsRunOf h run → SaysOutcome h.session.head run (DrawStep c.args.viewer c.args.drawing) c.in_ok-answer.answer) c.self.view_is
    (λ run r. verdict_told host run (without_preset (DrawStep c.args.viewer c.args.drawing)) c.in_ok-answer.answer _ r refl said.verdict said.answer c.draw.ensures.answer)
