use Rattle.std.proofs.Common.{refl}
use Rattle.session_core.proofs.Opening.{opening_is}
use Rattle.session_core.proofs.standing.Standing.new.Goals as goal

pub returns : goal.returns
returns c = opening_is c.args.size _ c.in_ok-surface.ensures.size c.in_ok-surface.ensures.state c.new-3.ensures.size c.new-3.ensures.board c.in_ok-members.ensures refl refl refl refl
