use Rattle.session_rules.proofs.Journals.{IsLegalJournal-front}
use Rattle.session_rules.proofs.laws.front_of_a_legal_journal_is_legal.Goals as goal

pub returns : goal.returns
returns c = IsLegalJournal-front
