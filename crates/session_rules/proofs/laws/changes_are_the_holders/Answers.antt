use Rattle.session_rules.proofs.Changes.{ChangesAreTheHolders-legal}
use Rattle.session_rules.proofs.laws.changes_are_the_holders.Goals as goal

pub returns : goal.returns
returns c = ChangesAreTheHolders-legal
