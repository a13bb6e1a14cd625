use Rattle.session_rules.proofs.Takes.{TakesFollow-takes_of, taken-≤}
use Rattle.session_rules.proofs.laws.takes_follow_each_other.Goals as goal

pub returns : goal.returns
returns c = record { follow = TakesFollow-takes_of; within = taken-≤ }
