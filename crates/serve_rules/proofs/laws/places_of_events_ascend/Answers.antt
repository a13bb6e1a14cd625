use Rattle.serve_rules.proofs.Ascending.{places_ascend, places_are_of_events}
use Rattle.serve_rules.proofs.laws.places_of_events_ascend.Goals as goal

pub returns : goal.returns
returns c = record { ascend = places_ascend; entries = places_are_of_events }
