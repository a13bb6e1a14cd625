use Rattle.std.proofs.Common.{rules}
use Rattle.mcs_ber.specs.ConnectInitial.{initial_fields}
use Rattle.wire_num.specs.FieldValue.{passing_at}
use Rattle.mcs_ber.proofs.connect_initial.read_initial_fields.Goals as goal

pub returns-in_err-bytes-2-clause-fields : goal.returns-in_err-bytes-2-clause-fields
unfolding initial_fields passing_at
returns-in_err-bytes-2-clause-fields c = search rules

pub returns-clause-fields : goal.returns-clause-fields
unfolding initial_fields passing_at
returns-clause-fields c = search rules
