use Rattle.std.proofs.Common.{rules}
use Rattle.share_pdu.specs.ClientPdu.{total_length}
use Rattle.wire_num.specs.FieldValue.{passing_at}
use Rattle.share_pdu.proofs.client_pdu.read_total.Goals as goal

pub returns-clause-field : goal.returns-clause-field
unfolding total_length passing_at
returns-clause-field c = search rules

pub returns-clause-fits : goal.returns-clause-fits
unfolding total_length passing_at
returns-clause-fits c = search rules
