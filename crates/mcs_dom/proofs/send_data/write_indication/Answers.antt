use Rattle.std.proofs.lemmas.Result.{err_from_is_err_and}
use Rattle.mcs_dom.proofs.Indication.{indication_whole, indication_begun, indication_cut}
use Rattle.mcs_dom.proofs.send_data.write_indication.Goals as goal

pub returns-in_err-put_indication_headers-clause-memory : goal.returns-in_err-put_indication_headers-clause-memory
returns-in_err-put_indication_headers-clause-memory c =
    let p = err_from_is_err_and c.from_residual.result c.from_residual.ensures.1 in
    rw p.1 (indication_begun _ _ _ c.in_err-put_indication_headers.ensures.memory)

pub returns-in_err-extend_from_slice-clause-memory : goal.returns-in_err-extend_from_slice-clause-memory
returns-in_err-extend_from_slice-clause-memory c =
    let p = err_from_is_err_and c.from_residual-in_err-extend_from_slice.result c.from_residual-in_err-extend_from_slice.ensures.1 in
    rw p.1 (indication_cut _ _ _ _ c.in_ok-put_indication_headers.ensures.ok c.in_err-extend_from_slice.ensures.items)

pub returns-clause-ok : goal.returns-clause-ok
returns-clause-ok c = indication_whole _ _ _ _ c.in_ok-put_indication_headers.ensures.ok c.in_ok-extend_from_slice.ensures.items
