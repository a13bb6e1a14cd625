use Rattle.std.proofs.Common.{length, ap, sym, ◌∙◌}
use Rattle.session_core.proofs.AllShown.{length_shown}
use Rattle.session_core.proofs.seen.SeenDrawings.len.Goals as goal

pub returns : goal.returns
returns c = ap length c.listed.ensures ∙ (sym (length_shown _ _ c.self.invariant) ∙ ap length c.self.view_is)
