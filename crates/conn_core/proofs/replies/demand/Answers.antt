use Rattle.std.proofs.lemmas.Result.{err_from_is_err_and}
use Rattle.conn_core.proofs.Fronts.{none_sent}
use Rattle.conn_core.proofs.replies.demand.Goals as goal

pub returns-in_err-put_demand-clause-memory : goal.returns-in_err-put_demand-clause-memory
returns-in_err-put_demand-clause-memory c =
    let p = err_from_is_err_and c.from_residual.result c.from_residual.ensures.1 in
    rw p.1 (none_sent _ _)
