use Rattle.frame_rules.proofs.UpdatesBack.{updates_obeyed}
use Rattle.frame_rules.proofs.laws.gathered_orders_are_obeyed_one_by_one.Goals as goal

pub returns : goal.returns
returns c = updates_obeyed
