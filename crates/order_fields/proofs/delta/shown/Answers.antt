use Rattle.std.proofs.Common.{rules}
use Rattle.order_fields.proofs.delta.shown.Goals as goal

pub returns-in-0-clause-shown : goal.returns-in-0-clause-shown
returns-in-0-clause-shown c = search rules
