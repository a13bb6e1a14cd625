use Rattle.std.proofs.Common.{rules}
use Rattle.order_fields.proofs.delta.is_byte_apart.Goals as goal

pub returns : goal.returns
returns c = search rules
