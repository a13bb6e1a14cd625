use Rattle.session_rules.proofs.Joins.{event_is}
use Rattle.session_rules.proofs.session_laws.entries_of_events_are_their_viewers.Goals as goal

pub returns : goal.returns
returns c = event_is
