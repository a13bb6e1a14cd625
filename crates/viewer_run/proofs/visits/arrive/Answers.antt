use Rattle.std.proofs.Common.{sym, ap, ◌∙◌}
use Rattle.session_core.specs.SessionModel.{SessionModel}
use Rattle.viewer_run.proofs.Legal.{legal_so}
use Rattle.viewer_run.proofs.Coming.{came}
use Rattle.viewer_run.proofs.visits.arrive.Goals as goal

pub returns-clause-came : goal.returns-clause-came
returns-clause-came g c =
    came _ _ _ _ c.enter-turn.result.pass _ c.enter-turn.result.base c.arrive_here-came.new.session.journal c.arrive_here-came.result c.value.result.now
    (ap (λ (s : SessionModel). s.head) c.value.ensures.value ∙ c.enter-turn.ensures.head)
    (ap (λ (s : SessionModel). s.journal) c.value.ensures.value ∙ sym c.enter-turn.ensures.list.0)
    (record {
      goes_on = c.enter-turn.ensures.list.1;
      found = c.enter-turn.ensures.found;
      mine = c.enter-turn.ensures.mine;
      share = c.enter-turn.ensures.share;
      seen_after = c.leave-pass.ensures.seen;
      found_after = c.leave-pass.ensures.found;
      mine_after = c.leave-pass.ensures.mine;
      share_after = c.leave-pass.ensures.share;
    })
    c.arrive_here-came.ensures.came

pub returns-clause-legal : goal.returns-clause-legal
returns-clause-legal g c =
    legal_so _ _ _ _ (c.arrive_here-came.ensures.head ∙ (ap (λ (s : SessionModel). s.head) c.value.ensures.value ∙ c.enter-turn.ensures.head)) c.leave-pass.ensures.seen
    c.arrive_here-came.ensures.legal
