use Rattle.std.proofs.Common.{◌∙◌, sym}
use Rattle.session_core.proofs.Sessions.{here_is, members_changed}
use Rattle.session_core.proofs.session.Session.suppress.Goals as goal

pub stop-requires : goal.stop-requires
stop-requires c = sym (here_is _ _ _ c.args.v c.self.invariant.is_session) ∙ (rw (← c.self.view_is) at c.requires)

pub invariant_of-self : goal.invariant_of-self
invariant_of-self c = members_changed _ _ _ _ _ _ _ c.stop.new.self c.self.invariant c.stop.ensures.viewers

pub returns-clause-suppressed : goal.returns-clause-suppressed
returns-clause-suppressed c = rw (← c.self.view_is) c.stop.ensures.stopped
