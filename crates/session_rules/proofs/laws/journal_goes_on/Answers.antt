use Rattle.session_rules.proofs.Journals.{reached_at-append}
use Rattle.session_rules.proofs.laws.journal_goes_on.Goals as goal

pub returns : goal.returns
returns c = reached_at-append
