use Rattle.std.proofs.Common.{rules}
use Rattle.order_fields.proofs.lasts.Lasts.values.Goals as goal

pub returns-in-2 : goal.returns-in-2
returns-in-2 c = search rules
