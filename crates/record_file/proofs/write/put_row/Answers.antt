use Rattle.std.proofs.lemmas.Result.{err_from_is_err_and}
use Rattle.std.proofs.Common.{◌≡◌, ◌∷◌, [], length, refl}
use Rattle.wire_num.proofs.Fronts.{front_before}
use Rattle.wire_num.proofs.Sent.{both_cut}
use Rattle.record_rules.specs.Tables.{role_number}
use Rattle.record_file.proofs.write.put_row.Goals as goal

pub returns-in_err-put_bytes-clause-memory : goal.returns-in_err-put_bytes-clause-memory
returns-in_err-put_bytes-clause-memory c =
    let p = err_from_is_err_and c.from_residual.result c.from_residual.ensures.1 in
    let row = c.args.row.now in
    let fields = role_number row.role ∷ length row.name ∷ [] in
    let same : c.bytes.result.now ≡ fields = rw (c.bytes.ensures, c.put_fields.ensures.fields, c.new-fields.ensures, c.role_number.ensures, c.bytes-name.ensures.value) refl in
    rw p.1 (front_before _ fields row.name _ (rw same at c.in_err-put_bytes.ensures.memory))

pub returns-clause-memory : goal.returns-clause-memory
returns-clause-memory c =
    let row = c.args.row.now in
    let fields = role_number row.role ∷ length row.name ∷ [] in
    let same : c.bytes.result.now ≡ fields = rw (c.bytes.ensures, c.put_fields.ensures.fields, c.new-fields.ensures, c.role_number.ensures, c.bytes-name.ensures.value) refl in
    both_cut c.put_bytes-2.result _ fields row.name _ _ (rw same at c.in_ok-put_bytes.ensures.ok) (rw c.bytes-name.ensures.value at c.put_bytes-2.ensures.memory)
