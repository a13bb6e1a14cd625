use Rattle.std.proofs.Common.{◌∙◌, subst, Err}
use Rattle.std.proofs.lemmas.Result.{err_from_is_err_and}
use Rattle.std.specs.contracts.alloc.Global as Global
use Rattle.session_core.specs.Heads.{rows_of}
use Rattle.record_rules.specs.Reading.{row_at}
use Rattle.record_file.specs.Reads.{row_of, ReadsOnce}
use Rattle.record_file.proofs.Readers.{row_read, rows_stop}
use Rattle.record_file.proofs.read_head.read_rows.Goals as goal

pub loop-preserved : goal.loop-preserved
loop-preserved c =
    let read = rw c.deref.ensures.value at c.in_ok-row.ensures in
    (rw c.in_ok-push.ensures.items (row_read c.args.count c.loop.counter c.loop.rows.items c.in_ok-row.row _ _ c.loop-test.true read.0 ∙ c.loop.invariant.0), read.1 ∙ c.loop.invariant.1)

pub returns-in_err-row : goal.returns-in_err-row
returns-in_err-row c =
    let p = err_from_is_err_and c.from_residual.result c.from_residual.ensures.1 in
    let refused = subst (λ rows. ReadsOnce row_of (row_at (rows_of rows)) (Err c.in_err-row.field-0.0) c.loop.cursor c.read_row.new.cursor) c.deref.ensures.value c.in_err-row.ensures in
    rw (p.1, p.2) (rows_stop Global.the_row.Denot c.args.count c.loop.counter c.loop.rows.items _ c.args.cursor.now c.loop.cursor c.read_row.new.cursor c.loop-test.true c.loop.invariant refused)
