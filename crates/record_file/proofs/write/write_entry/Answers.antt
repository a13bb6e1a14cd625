use Rattle.std.proofs.lemmas.Result.{err_from_is_err_and}
use Rattle.std.proofs.Common.{◌≡◌, ◌++◌, ◌∙◌, length}
use Rattle.byteorder.specs.Endian.{little_bytes}
use Rattle.wire_num.proofs.Fronts.{front_before}
use Rattle.wire_num.proofs.Sent.{both_cut}
use Rattle.record_rules.specs.Fields.{fields_bytes}
use Rattle.record_rules.specs.Tables.{entry_fields, entry_rest, body_bytes}
use Rattle.record_file.proofs.write.write_entry.Goals as goal

pub returns-in_err-put_bytes-clause-memory : goal.returns-in_err-put_bytes-clause-memory
returns-in_err-put_bytes-clause-memory c =
    let p = err_from_is_err_and c.from_residual.result c.from_residual.ensures.1 in
    let e = c.args.e.now in
    let fields = little_bytes 2 (length (body_bytes e)) ++ fields_bytes (entry_fields e) in
    let same : c.bytes.result.now ≡ fields = c.bytes.ensures ∙ c.gather_fields-fields.ensures in
    rw p.1 (front_before _ fields (entry_rest e) _ (rw same at c.in_err-put_bytes.ensures.memory))

pub returns-clause-memory : goal.returns-clause-memory
returns-clause-memory c =
    let e = c.args.e.now in
    let fields = little_bytes 2 (length (body_bytes e)) ++ fields_bytes (entry_fields e) in
    let same : c.bytes.result.now ≡ fields = c.bytes.ensures ∙ c.gather_fields-fields.ensures in
    both_cut c.put_entry_rest.result _ fields (entry_rest e) _ _ (rw same at c.in_ok-put_bytes.ensures.ok) c.put_entry_rest.ensures.memory
