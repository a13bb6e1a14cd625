use Rattle.session_rules.proofs.Few.{few}
use Rattle.session_rules.proofs.board_laws.reactions_are_short.Goals as goal

pub returns : goal.returns
returns c = few
