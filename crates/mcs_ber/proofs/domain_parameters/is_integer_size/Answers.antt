use Rattle.std.proofs.Common.{rules}
use Rattle.mcs_ber.proofs.domain_parameters.is_integer_size.Goals as goal

pub returns : goal.returns
returns c = search rules
