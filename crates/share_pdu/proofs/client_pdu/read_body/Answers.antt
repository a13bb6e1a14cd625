use Rattle.std.proofs.Common.{rules}
use Rattle.share_pdu.specs.ClientPdu.{data_body_at}
use Rattle.share_pdu.proofs.client_pdu.read_body.Goals as goal

pub returns-in_default-clause-read : goal.returns-in_default-clause-read
unfolding data_body_at
returns-in_default-clause-read c = search rules
