use Rattle.std.proofs.Common.{[]}
use Rattle.order_fields.specs.OrderTable.{field_list}
use Rattle.order_fields.proofs.Rows.{few_values}
use Rattle.order_fields.proofs.fields.Fields.plain.Goals as goal

pub put_front-requires : goal.put_front-requires
put_front-requires c = few_values (field_list c.args.kind c.args.values.now []) c.requires
