use Rattle.frame_laws.proofs.Journals.{between_sound, state_sound}
use Rattle.frame_laws.proofs.state_laws.states_of_a_legal_journal_are_sound.Goals as goal

pub returns : goal.returns
returns c = record {
  at = λ head j sized legal n. state_sound head j sized legal n;
  between = λ head j sized legal before number up. between_sound head j sized legal before number up;
}
