use Rattle.serve_rules.proofs.Handling.{handles_nothing, handles_idle, handles_one, handles_then}
use Rattle.serve_rules.proofs.laws.events_are_handled_in_turns.Goals as goal

pub returns : goal.returns
returns c = record { none = handles_nothing; idle = handles_idle; one = handles_one; more = handles_then }
