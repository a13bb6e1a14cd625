use Rattle.std.proofs.Common.{rules}
use Rattle.order_fields.proofs.write.put_color.Goals as goal

pub returns : goal.returns
returns c = search rules
