use Rattle.session_rules.proofs.OwnSteps.{journal_of_steps-own}
use Rattle.session_rules.proofs.laws.legal_journal_is_of_its_own_steps.Goals as goal

pub returns : goal.returns
returns c = journal_of_steps-own
