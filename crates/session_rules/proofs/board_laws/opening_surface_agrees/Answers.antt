use Rattle.session_rules.proofs.Agrees.{BoardAgrees-opening}
use Rattle.session_rules.proofs.board_laws.opening_surface_agrees.Goals as goal

pub returns : goal.returns
returns c = BoardAgrees-opening
