use Rattle.std.proofs.Common.{rules}
use Rattle.order_fields.proofs.write.is_typed.Goals as goal

pub returns : goal.returns
returns c = search rules
