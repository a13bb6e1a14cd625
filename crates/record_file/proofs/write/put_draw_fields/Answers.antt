use Rattle.std.proofs.Common.{◌++◌}
use Rattle.std.proofs.lemmas.Bool.{and_parts}
use Rattle.draw_ops.specs.Ranges.{is_u32}
use Rattle.record_rules.specs.Fields.{are_in_place}
use Rattle.record_rules.specs.Tables.{clip_fields, shape_fields}
use Rattle.record_file.proofs.write.put_draw_fields.Goals as goal

pub put_drawing_fields-requires-clause-place : goal.put_drawing_fields-requires-clause-place
put_drawing_fields-requires-clause-place c = let d = c.args.d.now in (and_parts (is_u32 c.args.by) (are_in_place (clip_fields d.clip ++ shape_fields d.shape)) c.requires.place).1
