use Rattle.frame_laws.proofs.Unsent.{unsent_agrees}
use Rattle.frame_laws.proofs.UnsentCut.{unsent_or_cut_agrees}
use Rattle.frame_laws.proofs.laws.unsent_drawing_keeps_the_agreement.Goals as goal

pub returns : goal.returns
returns start = record {
  in_its_turn = unsent_agrees;
  or_its_cut = λ size narrow st sized colors clip client c s w unsent a. unsent_or_cut_agrees size st sized colors narrow client c w a s clip unsent;
}
