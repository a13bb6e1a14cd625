use Rattle.std.proofs.lemmas.Result.{err_from_is_err_and}
use Rattle.caps_sets.proofs.Demand.{first_cut, second_cut, third_cut, written_size}
use Rattle.caps_sets.proofs.demand_active.write_demand_with.Goals as goal

pub returns-in_err-put_before-clause-memory : goal.returns-in_err-put_before-clause-memory
returns-in_err-put_before-clause-memory c =
    let p = err_from_is_err_and c.from_residual.result c.from_residual.ensures.1 in
    rw p.1 (first_cut c.args.size c.args.depth c.args.resizes _ _ c.in_err-put_before.ensures.memory)

pub returns-in_err-put_bitmap-clause-memory : goal.returns-in_err-put_bitmap-clause-memory
returns-in_err-put_bitmap-clause-memory c =
    let p = err_from_is_err_and c.from_residual-in_err-put_bitmap.result c.from_residual-in_err-put_bitmap.ensures.1 in
    rw p.1 (second_cut c.args.size c.args.depth c.args.resizes _ _ _ c.in_ok-put_before.ensures.ok c.in_err-put_bitmap.ensures.memory)

pub returns-in_err-put_after-clause-memory : goal.returns-in_err-put_after-clause-memory
returns-in_err-put_after-clause-memory c =
    let p = err_from_is_err_and c.from_residual-in_err-put_after.result c.from_residual-in_err-put_after.ensures.1 in
    rw p.1 (third_cut c.args.size c.args.depth c.args.resizes _ _ _ _ c.in_ok-put_before.ensures.ok c.in_ok-put_bitmap.ensures.ok c.in_err-put_after.ensures.memory)

pub returns-clause-size : goal.returns-clause-size
returns-clause-size c =
    written_size c.args.size c.args.depth c.args.resizes _ _ _ _ c.in_ok-put_before.ensures.ok c.in_ok-put_bitmap.ensures.ok c.in_ok-put_after.ensures.ok
