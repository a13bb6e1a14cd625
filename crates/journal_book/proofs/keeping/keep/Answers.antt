use Rattle.journal_book.proofs.Calls.{goes_none, goes_then, behind_on}
use Rattle.journal_book.proofs.keeping.keep.Goals as goal

pub loop-init : goal.loop-init
loop-init g c = record {
  behind = c.requires;
  on = goes_none g.K.Store g.met.K.Store.only_now c.args.lock.now.head c.args.book.now c.recall.ensures c.requires.1;
}

pub loop-preserved : goal.loop-preserved
loop-preserved g c = record {
  behind = behind_on g.K.Store c.args.lock.now c.loop.book c.keep_next.new.book c.keep_next.ensures.on c.loop.invariant.behind;
  on = goes_then g.K.Store c.args.lock.now.head c.args.book.now c.loop.book c.keep_next.new.book c.loop.invariant.on c.keep_next.ensures.on;
}

pub returns-in-Failed-clause-on : goal.returns-in-Failed-clause-on
returns-in-Failed-clause-on g c = goes_then g.K.Store c.args.lock.now.head c.args.book.now c.loop.book c.keep_next.new.book c.loop.invariant.on c.keep_next.ensures.on

pub returns-in-OutOfMemory-clause-on : goal.returns-in-OutOfMemory-clause-on
returns-in-OutOfMemory-clause-on g c = goes_then g.K.Store c.args.lock.now.head c.args.book.now c.loop.book c.keep_next.new.book c.loop.invariant.on c.keep_next.ensures.on
