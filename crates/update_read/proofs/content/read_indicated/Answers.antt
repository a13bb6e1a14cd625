use Rattle.std.proofs.lemmas.Result.{err_from_is_err_and}
use Rattle.wire_num.specs.Cursor.{rest}
use Rattle.update_read.proofs.Headers.{front_missing}
use Rattle.update_read.proofs.content.read_indicated.Goals as goal

pub returns-in_err-read_front : goal.returns-in_err-read_front
returns-in_err-read_front c =
    let p = err_from_is_err_and c.from_residual.result c.from_residual.ensures.1 in
    rw p.1 (rest c.read_front.new.cursor, front_missing c.args.kind (rest c.args.cursor.now) (rest c.read_front.new.cursor) c.in_err-read_front.ensures.0)
