use Rattle.std.proofs.Common.{length}
use Rattle.std.specs.Prelude.{◌&&◌}
use Rattle.std.proofs.lemmas.Bool.{and_parts}
use Rattle.draw_ops.specs.Ranges.{is_u16}
use Rattle.record_rules.specs.Fields.{are_in_place}
use Rattle.record_rules.specs.Tables.{entry_fields, body_bytes, is_entry_rest_in_place}
use Rattle.record_file.proofs.write.gather_fields.Goals as goal

pub body_length-requires : goal.body_length-requires
body_length-requires c = let e = c.args.e.now in (and_parts (are_in_place (entry_fields e) && is_entry_rest_in_place e) (is_u16 (length (body_bytes e))) c.requires).1

pub put_entry_fields-requires-clause-place : goal.put_entry_fields-requires-clause-place
put_entry_fields-requires-clause-place c =
    let e = c.args.e.now in
    (and_parts (are_in_place (entry_fields e)) (is_entry_rest_in_place e) (and_parts (are_in_place (entry_fields e) && is_entry_rest_in_place e) (is_u16 (length (body_bytes e))) c.requires).0).0
