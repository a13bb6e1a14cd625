use Rattle.std.proofs.Common.{◌≡◌, length, arith, rules}
use Rattle.std.proofs.lemmas.Bool.Decides.{nat_tests}
use Rattle.std.proofs.lemmas.Result.{err_from_is_err_and}
use Rattle.record_run.proofs.Written.{put_part, put_piece, put_all, parts, none_left}
use Rattle.record_run.proofs.picture.write_pixels.Goals as goal

pub loop-left-preserved : goal.loop-left-preserved
loop-left-preserved g c = record {
  put = put_piece _ _ _ _ _ _ _ c.loop-left.invariant.put c.in_ok-write_piece.ensures.written (parts _ _ _ _ c.split_at.ensures.front c.split_at.ensures.back);
  faults = search rules;
}

pub returns-in_err-write_piece-clause-written : goal.returns-in_err-write_piece-clause-written
returns-in_err-write_piece-clause-written g c =
    let p = err_from_is_err_and c.from_residual.result c.from_residual.ensures.1 in
    rw p.1 (put_part _ _ _ _ _ _ _ c.loop-left.invariant.put c.in_err-write_piece.ensures.written (parts _ _ _ _ c.split_at.ensures.front c.split_at.ensures.back))

pub returns-clause-written : goal.returns-clause-written
returns-clause-written g c =
    let none : length c.loop-left.left.now ≡ 0 = grind (arith, nat_tests, c.is_empty.ensures, c.loop-left-test.false) in
    put_all _ _ _ _ c.loop-left.invariant.put (none_left c.loop-left.left.now none)
