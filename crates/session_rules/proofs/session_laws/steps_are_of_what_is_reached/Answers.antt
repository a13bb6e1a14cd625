use Rattle.session_rules.proofs.Entered.{entry_of_outcome, answer_of_outcome}
use Rattle.session_rules.proofs.session_laws.steps_are_of_what_is_reached.Goals as goal

pub returns : goal.returns
returns c = record { entry = entry_of_outcome; answer = answer_of_outcome }
