use Rattle.frame_laws.proofs.JournalSuits.{journal_suits}
use Rattle.frame_laws.proofs.state_laws.drawings_of_a_legal_journal_suit.Goals as goal

pub returns : goal.returns
returns c = journal_suits
