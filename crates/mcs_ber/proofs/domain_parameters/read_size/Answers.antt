use Rattle.std.proofs.Common.{rules}
use Rattle.wire_num.specs.FieldValue.{passing_at}
use Rattle.mcs_ber.proofs.domain_parameters.read_size.Goals as goal

pub returns : goal.returns
unfolding passing_at
returns c = search rules

pub returns-then-not-is_integer_size : goal.returns-then-not-is_integer_size
unfolding passing_at
returns-then-not-is_integer_size c = search rules
