use Rattle.std.proofs.lemmas.Result.{err_from_is_err_and}
use Rattle.wire_num.specs.Cursor.{rest}
use Rattle.update_read.proofs.Contents.{IsTotal, content_refused, kind_refused}
use Rattle.update_read.proofs.share.read_content.Goals as goal

pub returns-in_err-content : goal.returns-in_err-content
returns-in_err-content c =
    let p = err_from_is_err_and c.from_residual.result c.from_residual.ensures.1 in
    rw p.1 (rest c.args.cursor.now, content_refused c.args.kind (rest c.args.cursor.now) (rest c.args.cursor.now) c.in_err-content.ensures.field.0)

pub returns-in_err-read_kind : goal.returns-in_err-read_kind
returns-in_err-read_kind c =
    let p = err_from_is_err_and c.from_residual-in_err-read_kind.result c.from_residual-in_err-read_kind.ensures.1 in
    let is : IsTotal c.in_ok-content.content c.args.cursor.now c.read_total.new.cursor = record { total = c.in_ok-content.ensures.field.0; same = c.in_ok-content.ensures.field.1; part = c.in_ok-content.ensures.part } in
    rw p.1 (_, kind_refused c.args.kind (rest c.read_kind.new.cursor) c.args.cursor.now c.read_total.new.cursor c.in_ok-content.content is c.in_err-read_kind.ensures.0)
