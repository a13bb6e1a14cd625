use Rattle.std.proofs.Common.{drop}
use Rattle.std.specs.Prelude.{flat_map}
use Rattle.wire_num.proofs.Sent.{HasSent}
use Rattle.record_rules.specs.Tables.{row_bytes}
use Rattle.session_core.specs.Heads.{rows_of}
use Rattle.record_file.proofs.write.put_rows.Given as goal

abbrev pub invariant-loop-row : goal.invariant-loop-row
invariant-loop-row l = HasSent l.fn.out.items (flat_map row_bytes (rows_of l.rows)) l.out.items (flat_map row_bytes (rows_of (drop l.row-index l.rows)))
