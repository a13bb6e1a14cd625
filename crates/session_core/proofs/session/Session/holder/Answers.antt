use Rattle.std.proofs.Common.{ap, sym}
use Rattle.session_core.proofs.Sessions.{reached_is}
use Rattle.session_core.proofs.session.Session.holder.Goals as goal

pub returns : goal.returns
returns c = rw (← c.self.view_is) (ap (λ r. r.holder) (sym (reached_is _ _ _ c.self.invariant.is_session)))
