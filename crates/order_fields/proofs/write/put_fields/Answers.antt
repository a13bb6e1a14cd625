use Rattle.std.proofs.Common.{◌∙◌}
use Rattle.order_fields.specs.OrderDelta.{fields_of}
use Rattle.order_fields.proofs.Present.{near_form}
use Rattle.order_fields.proofs.write.put_fields.Goals as goal

pub returns-in-Some-clause-bytes : goal.returns-in-Some-clause-bytes
returns-in-Some-clause-bytes c = c.in-Some.ensures.bytes ∙ near_form (fields_of c.args.kinds.now c.args.last.now c.args.values.now) c.in-Some.ensures.near
