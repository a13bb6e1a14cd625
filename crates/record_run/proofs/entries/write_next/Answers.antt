use Rattle.std.proofs.Common.{arith}
use Rattle.record_rules.proofs.Recordable.{legal_recordable}
use Rattle.record_run.proofs.Recorders.{on_ok}
use Rattle.record_run.proofs.Appended.{some_next, recordable_at}
use Rattle.record_run.proofs.entries.write_next.Goals as goal

pub write_entry-requires : goal.write_entry-requires
write_entry-requires c = recordable_at c.args.session.now.journal c.args.before c.entry.result.now
    (legal_recordable c.args.session.now.head c.args.session.now.journal c.recall_legal.ensures.size c.recall_legal.ensures.journal) c.entry.ensures

pub returns : goal.returns
returns c = on_ok c.write_entry.result (λ written j entry is at. some_next j c.args.session.now.journal c.args.before entry c.entry.result.now c.args.out.now.items c.write_entry.new.out.items
    is at (omega (arith, c.length.ensures, c.if-before-length.false)) c.entry.ensures written) c.write_entry.ensures.ok
