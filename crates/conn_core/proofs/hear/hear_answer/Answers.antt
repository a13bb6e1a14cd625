use Rattle.std.proofs.lemmas.Result.{err_from_is_err_and}
use Rattle.conn_core.proofs.Fronts.{all_sent}
use Rattle.conn_core.proofs.hear.hear_answer.Goals as goal

pub returns-in_err-tell-clause-memory : goal.returns-in_err-tell-clause-memory
returns-in_err-tell-clause-memory c =
    let p = err_from_is_err_and c.from_residual-in_err-tell.result c.from_residual-in_err-tell.ensures.1 in
    rw p.1 (record { written = all_sent _ _ _ c.in_ok-write_reply.ensures.ok; given = c.in_err-tell.ensures.memory })
