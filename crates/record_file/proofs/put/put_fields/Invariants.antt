use Rattle.std.proofs.Common.{drop, length, ◌≤◌, ◌+◌, ◌*◌}
use Rattle.std.specs.Prelude.{flat_map}
use Rattle.record_rules.specs.Fields.{field_bytes}
use Rattle.wire_num.proofs.Sent.{HasSent}
use Rattle.record_file.proofs.put.put_fields.Given as goal

abbrev pub invariant-loop-field : goal.invariant-loop-field
invariant-loop-field l = record {
  sent : HasSent l.fn.out (flat_map field_bytes l.fields) l.out (flat_map field_bytes (drop l.field-index l.fields));
  size : length l.out ≤ length l.fn.out + 4 * l.field-index;
}
