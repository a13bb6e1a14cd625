use Rattle.std.proofs.Common.{rules}
use Rattle.session_core.proofs.members.next_of.Goals as goal

pub returns : goal.returns
returns c = search rules
