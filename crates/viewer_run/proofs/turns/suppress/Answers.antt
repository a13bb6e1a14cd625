use Rattle.std.proofs.Common.{[], sym, ap, ◌∙◌, append-nil}
use Rattle.session_core.specs.SessionModel.{SessionModel}
use Rattle.viewer_run.proofs.Handled.{idled}
use Rattle.viewer_run.proofs.turns.suppress.Goals as goal

pub leave-pass-requires-clause-list : goal.leave-pass-requires-clause-list
leave-pass-requires-clause-list g c =
    ([], c.suppress_here.ensures.journal ∙ (ap (λ (s : SessionModel). s.journal) c.value.ensures.value ∙ (sym c.enter-turn.ensures.list.0 ∙ sym (append-nil _))))

pub returns-clause-idle : goal.returns-clause-idle
returns-clause-idle g c = idled _ c.enter-turn.result.pass _ c.enter-turn.result.base c.suppress_here.new.session.journal
    (record {
      goes_on = c.enter-turn.ensures.list.1;
      found = c.enter-turn.ensures.found;
      mine = c.enter-turn.ensures.mine;
      share = c.enter-turn.ensures.share;
      seen_after = c.leave-pass.ensures.seen;
      found_after = c.leave-pass.ensures.found;
      mine_after = c.leave-pass.ensures.mine;
      share_after = c.leave-pass.ensures.share;
    })
    (c.suppress_here.ensures.journal ∙ (ap (λ (s : SessionModel). s.journal) c.value.ensures.value ∙ sym c.enter-turn.ensures.list.0))
