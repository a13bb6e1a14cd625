use Rattle.std.proofs.Common.{refl}
use Rattle.std.proofs.lemmas.Result.{err_from_is_err_and}
use Rattle.mcs_ber.proofs.Response.{first_begun}
use Rattle.mcs_ber.proofs.connect_response.put_counted.Goals as goal

pub returns-in_err-put_ber_len-clause-memory : goal.returns-in_err-put_ber_len-clause-memory
returns-in_err-put_ber_len-clause-memory c =
    let p = err_from_is_err_and c.from_residual.result c.from_residual.ensures.1 in
    rw p.1 (first_begun _ _ _ _ _ refl c.in_err-put_ber_len.ensures.memory)
