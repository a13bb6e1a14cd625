use Rattle.session_rules.proofs.Fitting.{sides_of}
use Rattle.frame_laws.proofs.CutDrawing.{cut_does}
use Rattle.frame_laws.proofs.UnsentCut.{passed_over}
use Rattle.frame_laws.proofs.TurnedOver.{color_item}
use Rattle.frame_laws.proofs.CutSuits.{cut_suits}
use Rattle.frame_laws.proofs.shows.cut_does_what_its_drawing_does.Goals as goal

pub returns : goal.returns
returns c = record {
  suits = λ size st d q sized h is. cut_suits size (sides_of size.w size.h sized) st d q h is;
  state = λ size st d q whole is. (cut_does size st whole d.shape d.clip q is).state;
  pending = λ size st d q whole is. (cut_does size st whole d.shape d.clip q is).pending;
  passed_over = λ size j st d h none. passed_over size st h.sized.pixels (λ k below. color_item st.picture k h.colors) d.shape d.clip none;
}
