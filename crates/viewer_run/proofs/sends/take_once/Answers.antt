use Rattle.std.proofs.Common.{[], sym, ap, ◌∙◌, append-nil}
use Rattle.session_core.specs.SessionModel.{SessionModel}
use Rattle.viewer_run.proofs.Legal.{absent_so}
use Rattle.viewer_run.proofs.OneTake.{taken_in}
use Rattle.viewer_run.proofs.Coming.{up_to_date_in}
use Rattle.viewer_run.proofs.sends.take_once.Goals as goal

pub leave-pass-requires-clause-list : goal.leave-pass-requires-clause-list
leave-pass-requires-clause-list g c =
    ([], c.take_here-taken.ensures.journal ∙ (ap (λ (s : SessionModel). s.journal) c.value.ensures.value ∙ (sym c.enter-turn.ensures.list.0 ∙ sym (append-nil _))))

pub returns-clause-taken : goal.returns-clause-taken
returns-clause-taken g c = taken_in _ _ c.enter-turn.result.pass _ c.enter-turn.result.base c.take_here-taken.new.session.journal _ _ _ _ c.take_here-taken.result c.value.result.now
    (ap (λ (s : SessionModel). s.head) c.value.ensures.value ∙ c.enter-turn.ensures.head)
    (ap (λ (s : SessionModel). s.journal) c.value.ensures.value ∙ sym c.enter-turn.ensures.list.0)
    (record {
      goes_on = c.enter-turn.ensures.list.1;
      found = c.enter-turn.ensures.found;
      mine = c.enter-turn.ensures.mine;
      share = c.enter-turn.ensures.share;
      seen_after = c.leave-pass.ensures.seen;
      found_after = c.leave-pass.ensures.found;
      mine_after = c.leave-pass.ensures.mine;
      share_after = c.leave-pass.ensures.share;
    })
    c.take_here-taken.ensures.journal c.take_here-taken.ensures.taken

pub returns-clause-absent : goal.returns-clause-absent
returns-clause-absent g c = λ gone. c.take_here-taken.ensures.absent (absent_so _ _ _ _ _ (ap (λ (s : SessionModel). s.head) c.value.ensures.value ∙ c.enter-turn.ensures.head)
    (c.leave-pass.ensures.seen ∙ c.take_here-taken.ensures.journal) gone)

pub returns-clause-whole : goal.returns-clause-whole
returns-clause-whole g c = λ last. up_to_date_in _ _ _ _ _ c.value.result.now
    (ap (λ (s : SessionModel). s.head) c.value.ensures.value ∙ c.enter-turn.ensures.head)
    (sym (c.leave-pass.ensures.seen ∙ c.take_here-taken.ensures.journal)) (c.take_here-taken.ensures.whole last)
