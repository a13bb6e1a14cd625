use Rattle.std.proofs.Common.{◌∙◌, ap, sym, refl}
use Rattle.std.specs.Prelude.{Err}
use Rattle.std.proofs.lemmas.Result.{err_from_is_err_and}
use Rattle.wire_num.specs.Cursor.{CursorOf, rest}
use Rattle.update_read.specs.Forms.{told_form}
use Rattle.update_read.proofs.Found.{code_missing, code_refused, read_behind}
use Rattle.update_read.proofs.fast.read_fast_update.Goals as goal

pub returns-in_err-code-clause-fields : goal.returns-in_err-code-clause-fields
returns-in_err-code-clause-fields c =
    let p = err_from_is_err_and c.from_residual.result c.from_residual.ensures.1 in
    let e = c.in_err-code.ensures in
    rw (p.1, p.2) (code_missing (rest c.args.cursor.now) (rest c.args.cursor.now) e.0 ∙ ap (λ (k : CursorOf). Err (rest k)) (sym e.1), ap (λ (k : CursorOf). k.bytes) e.1, e.2 ∙ ap (λ (k : CursorOf). k.at) (sym e.1))

pub returns-in-Some-clause-fields : goal.returns-in-Some-clause-fields
returns-in-Some-clause-fields c =
    read_behind c.read_fast_data.result (told_form c.in-Some.form) c.in_ok-code.code c.args.cursor.now c.u8.new.self c.read_fast_data.new.cursor c.in_ok-code.ensures.0 c.in_ok-code.ensures.1 (sym c.in-Some.ensures) c.read_fast_data.ensures.fields

pub returns-in-None-clause-fields : goal.returns-in-None-clause-fields
returns-in-None-clause-fields c =
    let e = c.in_ok-code.ensures in
    let read = code_refused (rest c.args.cursor.now) (rest c.u8.new.self) c.in_ok-code.code e.0 (sym c.in-None.ensures) in
    rw (c.go_to.ensures, c.at-first.ensures.place) (rw e.1 read, e.1, refl)
