use Rattle.std.proofs.Common.{◌∙◌, [], false, ap, sym}
use Rattle.px_core.specs.TileFlags.{tiles}
use Rattle.session_core.proofs.MemberSteps.{kept_absent}
use Rattle.session_core.proofs.Sessions.{here_is}
use Rattle.session_core.proofs.session.Session.recall_legal.Goals as goal

pub returns-clause-absent : goal.returns-clause-absent
returns-clause-absent c v gone =
    let away = sym (here_is _ _ _ v c.self.invariant.is_session) ∙ (rw (← c.self.view_is) at gone) in
    rw (← c.self.view_is) (
      ap tiles (kept_absent (λ m. m.asked) [] v c.self.inside.standing.members away),
      kept_absent (λ m. m.suppressed) false v c.self.inside.standing.members away,
    )
