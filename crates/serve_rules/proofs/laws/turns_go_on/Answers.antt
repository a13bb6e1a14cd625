use Rattle.serve_rules.proofs.ReadOn.{in_turns_then}
use Rattle.serve_rules.proofs.laws.turns_go_on.Goals as goal

pub returns : goal.returns
returns c = in_turns_then
