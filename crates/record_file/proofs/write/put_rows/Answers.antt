use Rattle.std.proofs.lemmas.Result.{err_from_is_err_and}
use Rattle.std.proofs.Common.{drop, suc}
use Rattle.wire_num.proofs.Sent.{sent_part}
use Rattle.session_core.specs.Heads.{rows_of}
use Rattle.record_rules.specs.Tables.{rows_bytes}
use Rattle.record_file.proofs.Pieces.{row_first, named_at}
use Rattle.record_file.proofs.write.put_rows.Goals as goal

pub put_row-requires : goal.put_row-requires
put_row-requires c = named_at c.loop-row.row-index c.args.rows.now c.row-item.result c.requires c.loop-row-test.true c.row-item.is

pub returns-in_err-put_row-clause-memory : goal.returns-in_err-put_row-clause-memory
returns-in_err-put_row-clause-memory c =
    let p = err_from_is_err_and c.from_residual.result c.from_residual.ensures.1 in
    rw p.1 (sent_part _ _ _ _ _ (rows_bytes (rows_of (drop (suc c.loop-row.row-index) c.args.rows.now))) _ c.loop-row.invariant c.in_err-put_row.ensures.memory
    (row_first c.loop-row.row-index c.args.rows.now c.row-item.result c.loop-row-test.true c.row-item.is))
