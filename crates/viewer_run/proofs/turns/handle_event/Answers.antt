use Rattle.std.proofs.Common.{sym, ap, ◌∙◌}
use Rattle.session_core.specs.SessionModel.{SessionModel}
use Rattle.viewer_run.proofs.Handled.{handled}
use Rattle.viewer_run.proofs.turns.handle_event.Goals as goal

pub returns-clause-done : goal.returns-clause-done
returns-clause-done g c =
    handled _ _ _ _ c.enter-turn.result.pass _ c.enter-turn.result.base c.input_here-done.new.session.journal c.input_here-done.result c.value.result.now
    (ap (λ (s : SessionModel). s.head) c.value.ensures.value ∙ c.enter-turn.ensures.head) (ap (λ (s : SessionModel). s.journal) c.value.ensures.value ∙ sym c.enter-turn.ensures.list.0)
    (record { goes_on = c.enter-turn.ensures.list.1; found = c.enter-turn.ensures.found; mine = c.enter-turn.ensures.mine; share = c.enter-turn.ensures.share; seen_after = c.leave-pass.ensures.seen; found_after = c.leave-pass.ensures.found; mine_after = c.leave-pass.ensures.mine; share_after = c.leave-pass.ensures.share })
    c.input_here-done.ensures.done
