use Rattle.std.proofs.Common.{rules}
use Rattle.order_fields.proofs.bounds.keeps_bounds.Goals as goal

pub returns-then-confirmed : goal.returns-then-confirmed
returns-then-confirmed c = search rules

pub returns-else-confirmed : goal.returns-else-confirmed
returns-else-confirmed c = search rules
