use Rattle.mcs_ber.proofs.Within.{end_none}
use Rattle.mcs_ber.proofs.connect_initial.read_user_data.Goals as goal
use Rattle.std.proofs.Common.{rules}
use Rattle.mcs_ber.specs.ConnectInitial.{user_data}

pub returns-clause-end : goal.returns-clause-end
returns-clause-end c = end_none _ _ c.in_ok-end.ensures.0

pub returns-clause-fields : goal.returns-clause-fields
unfolding user_data
returns-clause-fields c = search rules
