use Rattle.serve_rules.proofs.ReadOn.{calm_refusal}
use Rattle.serve_rules.proofs.laws.no_read_fails_behind_a_refusal.Goals as goal

pub returns : goal.returns
returns c = calm_refusal
