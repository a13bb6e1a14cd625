use Rattle.std.proofs.Common.{rules}
use Rattle.update_read.proofs.update.read_orders_update.Goals as goal

pub returns : goal.returns
returns c = search rules
