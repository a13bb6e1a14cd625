-- A run after a step that is accepted or refused.
use Rattle.std.proofs.Common.{◌≡◌, ℕ, List, ◌++◌, ap, sym, ◌∙◌}
use Rattle.std.specs.Prelude.{false, Option, Some, option_to_list}
use Rattle.session_rules.specs.Steps.{Answer, outcome}
use Rattle.session_rules.specs.Entering.{is_take, entry_of_step, answer_at}
use Rattle.session_rules.proofs.Entered.{entry_of_outcome, answer_of_outcome}
use Rattle.session_core.specs.Outcomes.{IsAnswered, GoesOn}
use Rattle.session_core.specs.SessionModel.{reached_by, asked_by, is_suppressed}
use Rattle.frame_rules.specs.Encoder.{Encoder}
use Rattle.script_rules.specs.Script.{Asked}
use Rattle.script_rules.specs.Capture.{viewer_of}
use Rattle.script_rules.specs.CaptureText.{Run, bytes_of_answer, encoder_frames}
use Rattle.script_run.specs.declared.answer.StepAnswer.{StepAnswer}
use Rattle.script_run.specs.Answers.{answer_text, answer_of, IsVerdict, SaysOutcome}
use Rattle.script_run.specs.Hosts.{HostModel}
use Rattle.script_run.specs.Runs.{IsRunOf, Advances}
use Rattle.script_run.proofs.StepLines.{line_plain, plain_says, verdict_text, verdict_journal, answered}
use Rattle.script_run.proofs.StepsOn.{KeepsAll, verdict_on}

-- the session's answer is the run's
said_in_run : (host : HostModel) (run : Run Encoder) (a : Asked) (s : StepAnswer) (given : Option Answer) → IsRunOf host run → is_take a.step ≡ false → IsVerdict s
    → answer_of s ≡ given → IsAnswered given (answer_at host.session.head (reached_by host.session) a.step)
    → answer_of s ≡ Some (outcome host.session.head run.play a.step).answer
said_in_run host run a s given r other verdict is answer =
    let hd = host.session.head in
    answered s given (answer_at hd (reached_by host.session) a.step) verdict is answer
    ∙ ap Some (ap (λ x. answer_at hd x a.step) (sym r.reached) ∙ sym (answer_of_outcome hd run.play a.step other))

pub verdict_told : (host : HostModel) (run : Run Encoder) (a : Asked) (s : StepAnswer) (given : Option Answer) → IsRunOf host run → is_take a.step ≡ false → IsVerdict s
    → answer_of s ≡ given → IsAnswered given (answer_at host.session.head (reached_by host.session) a.step) → SaysOutcome host.session.head run a.step s
verdict_told host run a s given r other verdict is answer = plain_says s _ _ (said_in_run host run a s given r other verdict is answer)

pub verdict_step : (host new : HostModel) (run : Run Encoder) (a : Asked) (preset : List (List ℕ)) (s : StepAnswer) (given : Option Answer) → IsRunOf host run
    → is_take a.step ≡ false → IsVerdict s → answer_of s ≡ given → IsAnswered given (answer_at host.session.head (reached_by host.session) a.step)
    → GoesOn given (entry_of_step host.session.head (reached_by host.session) a.step) host.session.journal new.session.journal
    → new.session.head ≡ host.session.head → asked_by new.session ≡ asked_by host.session → is_suppressed new.session ≡ is_suppressed host.session → new.seats ≡ host.seats
    → (answer_of s ≡ Some (outcome host.session.head run.play a.step).answer → KeepsAll host.session.head run a (outcome host.session.head run.play a.step))
    → Advances host.session.head run a (answer_text host.session.head.size (viewer_of a.step) preset s) new
verdict_step host new run a preset s given r other verdict is answer goes head asked suppressed seats keeps =
    let hd = host.session.head in
    let said : answer_of s ≡ Some (outcome hd run.play a.step).answer = said_in_run host run a s given r other verdict is answer in
    let journal : new.session.journal ≡ host.session.journal ++ option_to_list (outcome hd run.play a.step).entry =
    verdict_journal s given _ host.session.journal new.session.journal verdict is goes
    ∙ ap (λ e. host.session.journal ++ option_to_list e) (ap (λ x. entry_of_step hd x a.step) (sym r.reached) ∙ sym (entry_of_outcome hd run.play a.step)) in
    record {
      line = verdict_text hd.size (viewer_of a.step) preset a.preset s verdict
          ∙ line_plain hd.size a s (outcome hd run.play a.step).answer (bytes_of_answer encoder_frames hd.size run (viewer_of a.step) (outcome hd run.play a.step).answer) said;
      is_run = verdict_on host new run a r head journal asked suppressed seats (keeps said);
    }
