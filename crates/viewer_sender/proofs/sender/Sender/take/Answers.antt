use Rattle.std.proofs.Common.{◌≤◌, length, ap, sym, subst}
use Rattle.viewer_sender.proofs.CacheSteps.{if_ok_as}
use Rattle.viewer_sender.specs.OwnTakes.{IsOwn}
use Rattle.viewer_sender.proofs.Sends.{own_taken}
use Rattle.viewer_sender.proofs.sender.Sender.take.Goals as goal

pub returns-clause-own : goal.returns-clause-own
returns-clause-own c =
    let s = c.args.session.now in
    let d = c.self.inside.desk in
    let seen = subst (λ n. n ≤ length s.journal) (sym (ap (λ m. m.number) c.self.view_is)) c.requires.seen in
    if_ok_as _ _ c.plan.result c.plan.ensures.taken (λ taken e.
    subst (λ k. IsOwn k taken) (ap (λ m. m.confirmed) c.self.view_is)
    (subst (IsOwn d.confirmed) (sym e) (own_taken _ s d c.recall_legal.ensures.size c.self.invariant.all c.recall_legal.ensures.journal seen c.recall_apart.ensures)))
