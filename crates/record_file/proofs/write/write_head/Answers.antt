use Rattle.std.proofs.lemmas.Result.{err_from_is_err_and}
use Rattle.std.proofs.Common.{◌≡◌, ◌++◌, length, sym}
use Rattle.std.proofs.lemmas.List.{length-map}
use Rattle.wire_num.proofs.Fronts.{front_before}
use Rattle.session_rules.specs.Journal.{Head}
use Rattle.session_core.specs.Heads.{rows_of}
use Rattle.record_rules.specs.Fields.{fields_bytes}
use Rattle.record_rules.specs.Tables.{record_mark, head_fields, rows_bytes}
use Rattle.record_file.proofs.write.write_head.Goals as goal

pub returns-in_err-put_bytes-clause-memory : goal.returns-in_err-put_bytes-clause-memory
returns-in_err-put_bytes-clause-memory c =
    let p = err_from_is_err_and c.from_residual.result c.from_residual.ensures.1 in
    let rows = c.args.rows.now in
    let head : Head = record { size = c.args.size; rows = rows_of rows } in
    let count : length (rows_of rows) ≡ length rows = length-map rows _ in
    rw p.1 (front_before _ (record_mark ++ fields_bytes (head_fields head)) (rows_bytes (rows_of rows)) _
    (rw (c.bytes.ensures, c.put_fields.ensures.fields, c.new-fields.ensures, sym count) at c.in_err-put_bytes.ensures.memory))
