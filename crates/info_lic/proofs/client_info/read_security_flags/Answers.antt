use Rattle.std.proofs.Common.{rules}
use Rattle.wire_num.specs.FieldValue.{passing_at}
use Rattle.info_lic.proofs.client_info.read_security_flags.Goals as goal

pub returns-then-flags-ne-SEC_INFO_PKT : goal.returns-then-flags-ne-SEC_INFO_PKT
unfolding passing_at
returns-then-flags-ne-SEC_INFO_PKT c = search rules

pub returns : goal.returns
unfolding passing_at
returns c = search rules
