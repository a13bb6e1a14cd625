use Rattle.session_rules.proofs.Agrees.{BoardAgrees-drawn}
use Rattle.session_rules.proofs.board_laws.other_drawings_keep_the_agreement.Goals as goal

pub returns : goal.returns
returns c = BoardAgrees-drawn
