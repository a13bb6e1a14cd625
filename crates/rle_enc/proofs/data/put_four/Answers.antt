use Rattle.std.proofs.lemmas.Result.{err_from_is_err_and}
use Rattle.rle_enc.proofs.Bytes.{nothing_put}
use Rattle.rle_enc.proofs.data.put_four.Goals as goal

pub returns-in_err-extend_from_slice-clause-memory : goal.returns-in_err-extend_from_slice-clause-memory
returns-in_err-extend_from_slice-clause-memory c =
    let p = err_from_is_err_and c.from_residual.result c.from_residual.ensures.1 in
    rw p.1 (nothing_put _ _ _ c.in_err-extend_from_slice.ensures.items)
