use Rattle.std.proofs.Common.{rules}
use Rattle.update_read.proofs.update.read_any.Goals as goal

pub returns-in_default : goal.returns-in_default
returns-in_default c = search rules
