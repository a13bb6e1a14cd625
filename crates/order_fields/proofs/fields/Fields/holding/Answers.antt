use Rattle.order_fields.specs.OrderTable.{field_list}
use Rattle.order_fields.proofs.Rows.{few_values}
use Rattle.order_fields.proofs.fields.Fields.holding.Goals as goal

pub padded-requires : goal.padded-requires
padded-requires c = few_values (field_list c.args.kind c.args.values.now c.args.bytes.items) c.requires
