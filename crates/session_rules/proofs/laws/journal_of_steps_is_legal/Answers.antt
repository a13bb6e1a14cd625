use Rattle.session_rules.proofs.Journals.{IsLegalJournal-journal_of_steps}
use Rattle.session_rules.proofs.laws.journal_of_steps_is_legal.Goals as goal

pub returns : goal.returns
returns c = IsLegalJournal-journal_of_steps
