use Rattle.std.proofs.Common.{refl, arith}
use Rattle.std.proofs.lemmas.Result.{err_from_is_err_and}
use Rattle.mcs_ber.proofs.Response.{second_begun}
use Rattle.mcs_ber.proofs.connect_response.put_content.Goals as goal
use Rattle.std.proofs.lemmas.Grind.{common_steps}

pub returns-in_err-put_counted-clause-memory : goal.returns-in_err-put_counted-clause-memory
returns-in_err-put_counted-clause-memory c =
    let p = err_from_is_err_and c.from_residual-in_err-put_counted.result c.from_residual-in_err-put_counted.ensures.1 in
    rw p.1 (second_begun _ _ _ _ _ _ refl c.in_ok-extend_from_slice.ensures.items c.in_err-put_counted.ensures.memory)

pub returns-clause-ok : goal.returns-clause-ok
returns-clause-ok c = grind (arith, common_steps)
