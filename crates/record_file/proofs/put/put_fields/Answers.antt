use Rattle.record_rules.specs.declared.field.Field.TheVariants.{Byte}
use Rattle.record_file.proofs.Pieces.{in_place_at}
use Rattle.record_file.proofs.put.put_fields.Goals as goal

pub put_field-requires-clause-place : goal.put_field-requires-clause-place
put_field-requires-clause-place c = in_place_at (Byte 0) c.loop-field.field-index c.args.fields.now c.requires.place c.loop-field-test.true
