use Rattle.std.proofs.Common.{sym, ap, ◌∙◌}
use Rattle.session_core.specs.SessionModel.{SessionModel}
use Rattle.viewer_run.proofs.Legal.{legal_so}
use Rattle.viewer_run.proofs.Coming.{left}
use Rattle.viewer_run.proofs.visits.depart.Goals as goal

pub returns-clause-left : goal.returns-clause-left
returns-clause-left g c =
    left _ _ _ c.enter-turn.result.pass _ c.enter-turn.result.base c.depart_here-place.new.session.journal c.depart_here-place.result c.value.result.now
    (ap (λ (s : SessionModel). s.head) c.value.ensures.value ∙ c.enter-turn.ensures.head)
    (ap (λ (s : SessionModel). s.journal) c.value.ensures.value ∙ sym c.enter-turn.ensures.list.0)
    (record {
      goes_on = c.enter-turn.ensures.list.1;
      found = c.enter-turn.ensures.found;
      mine = c.enter-turn.ensures.mine;
      share = c.enter-turn.ensures.share;
      seen_after = c.leave-pass.ensures.seen;
      found_after = c.leave-pass.ensures.found;
      mine_after = c.leave-pass.ensures.mine;
      share_after = c.leave-pass.ensures.share;
    })
    c.depart_here-place.ensures.left

pub returns-clause-legal : goal.returns-clause-legal
returns-clause-legal g c =
    legal_so _ _ _ _ (c.depart_here-place.ensures.head ∙ (ap (λ (s : SessionModel). s.head) c.value.ensures.value ∙ c.enter-turn.ensures.head)) c.leave-pass.ensures.seen
    c.depart_here-place.ensures.legal
