use Rattle.std.proofs.Common.{◌∙◌, ap, length, ◌*◌}
use Rattle.wire_num.specs.Cursor.{rest}
use Rattle.record_file.proofs.Readers.{counted, length-colors_in}
use Rattle.record_file.proofs.read_field.read_colors.Goals as goal

pub returns-clause-number : goal.returns-clause-number
returns-clause-number c =
    let bytes = rw c.from.ensures at c.in_ok-bytes.ensures.0 in
    ap length c.in_ok-colors_in.ensures.value ∙ length-colors_in c.args.count c.in_ok-bytes.bytes.now (counted (3 * c.args.count) (rest c.args.cursor.now) c.in_ok-bytes.bytes.now (rest c.bytes.new.self) bytes)
