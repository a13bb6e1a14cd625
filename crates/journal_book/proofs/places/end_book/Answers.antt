use Rattle.journal_book.proofs.Ends.{ended, kept_at_end, whole_at_end, safe_at_end}
use Rattle.journal_book.proofs.places.end_book.Goals as goal

pub returns-clause-ended : goal.returns-clause-ended
returns-clause-ended g c =
    ended g.K.Store c.args.lock.now c.args.books.head c.into_value-book.result c.args.place.seen c.meet.result.seen c.into_parts-store.result.1 c.into_parts-store.result.0 c.into_parts-store.result.2
    c.recall.ensures c.requires.behind c.into_value-book.ensures.head c.into_value-book.ensures.list c.meet.ensures.seen.2 c.into_parts-store.ensures.pass c.into_parts-store.ensures.store c.into_parts-store.ensures.wrote

pub returns-clause-kept : goal.returns-clause-kept
returns-clause-kept g c =
    kept_at_end g.K.Store c.args.books.head.first c.into_parts-store.result.0 c.into_parts-store.result.2 c.args.lock.now.head c.meet.result.seen _ (returns-clause-ended g c)

pub returns-clause-whole : goal.returns-clause-whole
returns-clause-whole g c =
    whole_at_end g.K.Store c.args.books.head.first c.into_parts-store.result.0 c.into_parts-store.result.2 c.args.lock.now.head c.meet.result.seen _ (returns-clause-ended g c)

pub returns-clause-crash : goal.returns-clause-crash
returns-clause-crash g c =
    safe_at_end g.K.Store c.args.books.head.first c.into_parts-store.result.0 c.into_parts-store.result.2 c.args.lock.now.head c.meet.result.seen _ (returns-clause-ended g c) g.met.K.Store.only_now
