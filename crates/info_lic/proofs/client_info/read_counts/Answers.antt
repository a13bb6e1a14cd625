use Rattle.std.proofs.Common.{rules}
use Rattle.info_lic.specs.ClientInfo.{info_start}
use Rattle.wire_num.specs.FieldValue.{passing_at}
use Rattle.info_lic.proofs.client_info.read_counts.Goals as goal

pub returns : goal.returns
unfolding info_start passing_at
returns c = search rules
