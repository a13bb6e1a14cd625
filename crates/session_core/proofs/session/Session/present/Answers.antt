use Rattle.std.proofs.Common.{◌∙◌, ap}
use Rattle.std.specs.Prelude.{is_some}
use Rattle.session_rules.specs.Journal.{role_of}
use Rattle.session_core.specs.Members.{viewers_of}
use Rattle.session_core.proofs.Sessions.{here_is}
use Rattle.session_core.proofs.session.Session.present.Goals as goal

pub returns : goal.returns
returns c = rw (← c.self.view_is, here_is _ _ _ c.args.v c.self.invariant.is_session)
    (c.is_some.ensures ∙ ap is_some (c.role_of.ensures ∙ ap (λ ms. role_of c.args.v (viewers_of ms)) c.list.ensures))
