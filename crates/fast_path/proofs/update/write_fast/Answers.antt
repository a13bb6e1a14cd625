use Rattle.std.proofs.Common.{length}
use Rattle.std.proofs.lemmas.Result.{err_from_is_err_and}
use Rattle.wire_num.proofs.Fronts.{front_before}
use Rattle.fast_path.specs.Written.{fast_headers}
use Rattle.fast_path.proofs.Written.{fast_data}
use Rattle.fast_path.proofs.update.write_fast.Goals as goal

pub put_fast_headers-requires : goal.put_fast_headers-requires
put_fast_headers-requires c = fast_data c.args.code c.args.body.now c.requires

pub returns-in_err-put_fast_headers-clause-memory :
    goal.returns-in_err-put_fast_headers-clause-memory
returns-in_err-put_fast_headers-clause-memory c =
    let p = err_from_is_err_and c.from_residual.result c.from_residual.ensures.1 in
    rw p.1 (front_before c.args.out.now.items (fast_headers c.args.code (length c.args.body.now)) c.args.body.now c.put_fast_headers.new.out.items c.in_err-put_fast_headers.ensures.memory)
