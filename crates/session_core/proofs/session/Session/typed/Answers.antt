use Rattle.session_core.proofs.session.Session.typed.Goals as goal

pub returns : goal.returns
returns c = rw (← c.self.view_is) c.self.invariant.typed_last
