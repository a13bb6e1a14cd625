use Rattle.std.proofs.Common.{arith, rules}
use Rattle.record_rules.proofs.Recordable.{legal_recordable}
use Rattle.journal_book.proofs.Pieces.{no_piece, longer_piece, recordable_at}
use Rattle.journal_book.proofs.piece.encode_from.Goals as goal

pub loop-to-init : goal.loop-to-init
loop-to-init c = no_piece c.args.session.now.journal c.args.from c.args.out.now.items c.requires.from c.requires.empty

pub write_entry-requires : goal.write_entry-requires
write_entry-requires c = recordable_at c.args.session.now.journal c.loop-to.to c.entry.result.now
    (legal_recordable c.args.session.now.head c.args.session.now.journal c.recall_legal.ensures.size c.recall_legal.ensures.journal) c.entry.ensures

pub loop-to-smaller : goal.loop-to-smaller
loop-to-smaller c = omega (arith, c.loop-to-test.true, c.length.ensures)

pub loop-to-preserved : goal.loop-to-preserved
loop-to-preserved c = longer_piece c.args.session.now.journal c.args.from c.loop-to.to c.length.result c.entry.result.now c.loop-to.out.items c.write_entry.new.out.items
    c.loop-to.invariant c.entry.ensures c.loop-to-test.true c.length.ensures (search rules)
