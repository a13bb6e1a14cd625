use Rattle.std.proofs.Common.{◌+◌, length, ap}
use Rattle.std.proofs.lemmas.Result.{err_from_is_err_and}
use Rattle.mcs_ber.proofs.Response.{both, first_begun, second_begun, response_is}
use Rattle.mcs_ber.proofs.connect_response.write_response.Goals as goal

pub returns-in_err-put_headers-clause-memory : goal.returns-in_err-put_headers-clause-memory
returns-in_err-put_headers-clause-memory c =
    let p = err_from_is_err_and c.from_residual.result c.from_residual.ensures.1 in
    let size = ap (λ k. 35 + k + length c.args.user.now) c.length_size.ensures in
    rw p.1 (first_begun _ _ _ _ _ (response_is c.args.user.now _ size) c.in_err-put_headers.ensures.memory)

pub returns-in_err-put_content-clause-memory : goal.returns-in_err-put_content-clause-memory
returns-in_err-put_content-clause-memory c =
    let p = err_from_is_err_and c.from_residual-in_err-put_content.result c.from_residual-in_err-put_content.ensures.1 in
    let size = ap (λ k. 35 + k + length c.args.user.now) c.length_size.ensures in
    rw p.1 (second_begun _ _ _ _ _ _ (response_is c.args.user.now _ size) c.in_ok-put_headers.ensures.ok c.in_err-put_content.ensures.memory)

pub returns-clause-ok : goal.returns-clause-ok
returns-clause-ok c =
    let size = ap (λ k. 35 + k + length c.args.user.now) c.length_size.ensures in
    both _ _ _ _ _ _ (response_is c.args.user.now _ size) c.in_ok-put_headers.ensures.ok c.in_ok-put_content.ensures.ok
