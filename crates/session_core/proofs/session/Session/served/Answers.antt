use Rattle.std.proofs.Common.{◌∙◌, sym}
use Rattle.session_core.proofs.Sessions.{here_is, members_changed}
use Rattle.session_core.proofs.session.Session.served.Goals as goal

pub clear-requires : goal.clear-requires
clear-requires c = sym (here_is _ _ _ c.args.v c.self.invariant.is_session) ∙ (rw (← c.self.view_is) at c.requires)

pub invariant_of-self : goal.invariant_of-self
invariant_of-self c = members_changed _ _ _ _ _ _ _ c.clear.new.self c.self.invariant c.clear.ensures.viewers

pub returns-clause-asked : goal.returns-clause-asked
returns-clause-asked c = rw (← c.self.view_is) c.clear.ensures.asked
