use Rattle.std.proofs.Common.{◌≡◌, ◌∙◌, [], ℕ, List, refl, ap, subst}
use Rattle.std.specs.Prelude.{true}
use Rattle.session_rules.specs.Journal.{Head}
use Rattle.session_rules.specs.Steps.Step.{JoinStep}
use Rattle.session_core.specs.Heads.{rows_of}
use Rattle.session_core.specs.SessionModel.{new_session}
use Rattle.frame_rules.specs.Encoder.{Encoder}
use Rattle.script_rules.specs.CaptureText.{Run}
use Rattle.script_run.specs.Answers.{answer_text}
use Rattle.script_run.specs.Hosts.{HostModel}
use Rattle.script_run.specs.Runs.{IsRunOf, Advances}
use Rattle.script_run.proofs.Inviting.{not_running, same_at_first}
use Rattle.script_run.proofs.hosting.ScriptHost.begin.Goals as goal

pub returns-clause-done : goal.returns-clause-done
returns-clause-done c =
    let head : Head = record { size = c.self.inside.size; rows = rows_of c.self.inside.rows.items } in
    let none = not_running head c.self.inside.running c.self.invariant.same (rw (← c.self.view_is) at c.requires) in
    let begun : HostModel = record { begun = true; session = new_session head; seats = [] } in
    let is : c.in_ok-running.running ≡ begun = c.in_ok-running.ensures
    ∙ ap (λ xs. record { begun = true; session = new_session (record { size = c.self.inside.size; rows = rows_of xs }); seats = [] }) c.deref.ensures.value in
    let done = subst (λ (h : HostModel). (run : Run Encoder) (preset : List (List ℕ)) → IsRunOf h run
    → Advances h.session.head run (record { step = JoinStep c.args.name.now; preset = preset; confirmed = c.args.confirmed })
    (answer_text h.session.head.size 0 preset c.in_ok-answer.answer) c.join.new.self) is c.in_ok-answer.ensures.done in
    rw (← c.self.view_is, none) (λ run preset r. done run preset (same_at_first head head true run refl r))
