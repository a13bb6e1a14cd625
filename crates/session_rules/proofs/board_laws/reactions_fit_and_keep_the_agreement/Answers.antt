use Rattle.session_rules.proofs.Fitting.{sides_of}
use Rattle.session_rules.proofs.BoardReactions.{board_reacts}
use Rattle.session_rules.proofs.board_laws.reactions_fit_and_keep_the_agreement.Goals as goal

pub returns : goal.returns
returns c = record {
  fit = λ size st b e good h. (board_reacts size st b e (sides_of size.w size.h good) h).0;
  agree = λ size st b e good h. (board_reacts size st b e (sides_of size.w size.h good) h).1;
}
