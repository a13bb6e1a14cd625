use Rattle.share_pdu.proofs.Share.{share_back}
use Rattle.share_pdu.proofs.laws.share_is_read_from_its_bytes.Goals as goal

pub returns : goal.returns
returns c = share_back
