use Rattle.std.proofs.Common.{rules}
use Rattle.input_pdu.proofs.one_event.is_release.Goals as goal

pub returns : goal.returns
returns c = search rules
