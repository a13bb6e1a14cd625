use Rattle.journal_book.specs.Books.{IsBehind, head_of_book}
use Rattle.journal_book.specs.Keeping.{GoesOn}
use Rattle.journal_book.proofs.keeping.keep.Given as goal

-- what was kept so far
abbrev pub invariant-loop : goal.invariant-loop
invariant-loop g l = record {
  behind : IsBehind l.lock (head_of_book l.book);
  on : GoesOn g.K.Store l.lock.head l.fn.book l.book;
}
