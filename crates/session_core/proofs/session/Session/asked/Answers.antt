use Rattle.std.proofs.Common.{◌∙◌, sym}
use Rattle.session_core.proofs.Sessions.{here_is}
use Rattle.session_core.proofs.session.Session.asked.Goals as goal

pub asked_by-requires : goal.asked_by-requires
asked_by-requires c = rw c.list.ensures (sym (here_is _ _ _ c.args.v c.self.invariant.is_session) ∙ (rw (← c.self.view_is) at c.requires))
