use Rattle.std.proofs.Common.{rules}
use Rattle.share_pdu.specs.ClientPdu.{compressed_type_at}
use Rattle.share_pdu.proofs.client_pdu.read_compressed_type.Goals as goal

pub returns-then-compressed_type-eq-PACKET_COMPRESSED : goal.returns-then-compressed_type-eq-PACKET_COMPRESSED
unfolding compressed_type_at
returns-then-compressed_type-eq-PACKET_COMPRESSED c = search rules

pub returns : goal.returns
unfolding compressed_type_at
returns c = search rules
