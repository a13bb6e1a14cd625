use Rattle.record_rules.specs.Tables.{clip_fields, shape_fields}
use Rattle.record_rules.proofs.ShapesBack.{in_place_parts}
use Rattle.record_file.proofs.drawing.put_drawing_fields.Goals as goal

pub put_clip-requires-clause-place : goal.put_clip-requires-clause-place
put_clip-requires-clause-place c = (in_place_parts (clip_fields c.args.d.now.clip) (shape_fields c.args.d.now.shape) c.requires.place).0

pub put_shape_fields-requires-clause-place : goal.put_shape_fields-requires-clause-place
put_shape_fields-requires-clause-place c = (in_place_parts (clip_fields c.args.d.now.clip) (shape_fields c.args.d.now.shape) c.requires.place).1
