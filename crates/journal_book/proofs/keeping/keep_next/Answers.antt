use Rattle.std.proofs.Common.{ℕ, List, Vec, Global, sym, subst, ◌∙◌}
use Rattle.edge_io.specs.declared.sink.Wrote.TheVariants.{All, Failed, OutOfMemory}
use Rattle.journal_book.specs.Books.{IsPiece, IsNextPiece}
use Rattle.journal_book.proofs.Pieces.{if_ok}
use Rattle.journal_book.proofs.Steps.{answered}
use Rattle.journal_book.proofs.Calls.{goes_nowhere, turned_on, kept_order, kept_goes, torn_order, torn_goes}
use Rattle.journal_book.proofs.keeping.keep_next.Goals as goal

-- a call that has failed before
pub returns-in-Failed-clause-on : goal.returns-in-Failed-clause-on
returns-in-Failed-clause-on g c =
    goes_nowhere g.K.Store g.met.K.Store.only_now c.args.lock.now c.args.book.now c.book.inside.store c.book.inside.first.value c.book.inside.pass c.book.inside.count c.book.inside.wrote
    c.book.view_is c.book.invariant c.requires

pub returns-in-OutOfMemory-clause-on : goal.returns-in-OutOfMemory-clause-on
returns-in-OutOfMemory-clause-on g c =
    goes_nowhere g.K.Store g.met.K.Store.only_now c.args.lock.now c.args.book.now c.book.inside.store c.book.inside.first.value c.book.inside.pass c.book.inside.count c.book.inside.wrote
    c.book.view_is c.book.invariant c.requires

-- nothing was appended
pub returns-in_default-piece-clause-on : goal.returns-in_default-piece-clause-on
returns-in_default-piece-clause-on g c =
    turned_on g.K.Store c.args.lock.now c.args.book.now c.book.inside.store c.book.inside.first.value c.book.inside.pass c.in-Some.pass c.next_piece-pass.result.0 c.book.inside.count c.book.inside.wrote (record {
      view = c.book.view_is;
      is = sym c.take.ensures.value ∙ c.in-Some.is;
      order = c.book.invariant;
      behind = c.requires;
      whole = c.in-All.is;
      of_lock = c.next_piece-pass.ensures.lock;
      seen = c.next_piece-pass.ensures.seen;
      mine = c.next_piece-pass.ensures.mine;
      share = c.next_piece-pass.ensures.share;
    })
    g.met.K.Store.only_now

pub returns-then-to-book-clause-on : goal.returns-then-to-book-clause-on
returns-then-to-book-clause-on g c =
    turned_on g.K.Store c.args.lock.now c.args.book.now c.book.inside.store c.book.inside.first.value c.book.inside.pass c.in-Some.pass c.next_piece-pass.result.0 c.book.inside.count c.book.inside.wrote (record {
      view = c.book.view_is;
      is = sym c.take.ensures.value ∙ c.in-Some.is;
      order = c.book.invariant;
      behind = c.requires;
      whole = c.in-All.is;
      of_lock = c.next_piece-pass.ensures.lock;
      seen = c.next_piece-pass.ensures.seen;
      mine = c.next_piece-pass.ensures.mine;
      share = c.next_piece-pass.ensures.share;
    })
    g.met.K.Store.only_now

-- a piece was
pub invariant_of-book-in-All-append : goal.invariant_of-book-in-All-append
invariant_of-book-in-All-append g c =
    let whole = if_ok (λ (p : ℕ × Vec ℕ Global). IsNextPiece c.next_piece-pass.result.0.seen c.book.inside.count p.0 p.1.items) c.next_piece-pass.result.1 (c.in-Ok.to, c.in-Ok.bytes)
    c.next_piece-pass.ensures.piece c.in-Ok.is in
    let piece : IsPiece c.next_piece-pass.result.0.seen c.book.inside.count c.in-Ok.to c.deref.result.now =
    subst (λ (bs : List ℕ). IsPiece c.next_piece-pass.result.0.seen c.book.inside.count c.in-Ok.to bs) (sym c.deref.ensures.value) whole.piece in
    let call = answered g.K.Store c.book.inside.store c.append.new.self c.append.result All c.deref.result.now (record {
      bytes = c.append.ensures.bytes;
      settled = c.append.ensures.settled;
      name = c.append.ensures.opened;
      crash = c.append.ensures.crash;
      time = c.append.ensures.time;
      cause = c.append.ensures.cause;
    }) c.in-All-append.is in
    kept_order g.K.Store c.args.lock.now c.args.book.now c.book.inside.store c.book.inside.first.value c.book.inside.pass c.in-Some.pass c.next_piece-pass.result.0 c.book.inside.count c.book.inside.wrote (record {
      view = c.book.view_is;
      is = sym c.take.ensures.value ∙ c.in-Some.is;
      order = c.book.invariant;
      behind = c.requires;
      whole = c.in-All.is;
      of_lock = c.next_piece-pass.ensures.lock;
      seen = c.next_piece-pass.ensures.seen;
      mine = c.next_piece-pass.ensures.mine;
      share = c.next_piece-pass.ensures.share;
    })
    c.in-Ok.to c.deref.result.now c.append.new.self piece call

pub returns-in-All-append-clause-on : goal.returns-in-All-append-clause-on
returns-in-All-append-clause-on g c =
    let whole = if_ok (λ (p : ℕ × Vec ℕ Global). IsNextPiece c.next_piece-pass.result.0.seen c.book.inside.count p.0 p.1.items) c.next_piece-pass.result.1 (c.in-Ok.to, c.in-Ok.bytes)
    c.next_piece-pass.ensures.piece c.in-Ok.is in
    let piece : IsPiece c.next_piece-pass.result.0.seen c.book.inside.count c.in-Ok.to c.deref.result.now =
    subst (λ (bs : List ℕ). IsPiece c.next_piece-pass.result.0.seen c.book.inside.count c.in-Ok.to bs) (sym c.deref.ensures.value) whole.piece in
    let call = answered g.K.Store c.book.inside.store c.append.new.self c.append.result All c.deref.result.now (record {
      bytes = c.append.ensures.bytes;
      settled = c.append.ensures.settled;
      name = c.append.ensures.opened;
      crash = c.append.ensures.crash;
      time = c.append.ensures.time;
      cause = c.append.ensures.cause;
    }) c.in-All-append.is in
    kept_goes g.K.Store c.args.lock.now c.args.book.now c.book.inside.store c.book.inside.first.value c.book.inside.pass c.in-Some.pass c.next_piece-pass.result.0 c.book.inside.count c.book.inside.wrote (record {
      view = c.book.view_is;
      is = sym c.take.ensures.value ∙ c.in-Some.is;
      order = c.book.invariant;
      behind = c.requires;
      whole = c.in-All.is;
      of_lock = c.next_piece-pass.ensures.lock;
      seen = c.next_piece-pass.ensures.seen;
      mine = c.next_piece-pass.ensures.mine;
      share = c.next_piece-pass.ensures.share;
    })
    g.met.K.Store.only_now c.in-Ok.to c.deref.result.now c.append.new.self piece call

-- a front of one was, at most
pub invariant_of-book-in-Failed-append : goal.invariant_of-book-in-Failed-append
invariant_of-book-in-Failed-append g c =
    let call = answered g.K.Store c.book.inside.store c.append.new.self c.append.result Failed c.deref.result.now (record {
      bytes = c.append.ensures.bytes;
      settled = c.append.ensures.settled;
      name = c.append.ensures.opened;
      crash = c.append.ensures.crash;
      time = c.append.ensures.time;
      cause = c.append.ensures.cause;
    }) c.in-Failed-append.is in
    torn_order g.K.Store c.args.lock.now c.args.book.now c.book.inside.store c.book.inside.first.value c.book.inside.pass c.in-Some.pass c.next_piece-pass.result.0 c.book.inside.count c.book.inside.wrote (record {
      view = c.book.view_is;
      is = sym c.take.ensures.value ∙ c.in-Some.is;
      order = c.book.invariant;
      behind = c.requires;
      whole = c.in-All.is;
      of_lock = c.next_piece-pass.ensures.lock;
      seen = c.next_piece-pass.ensures.seen;
      mine = c.next_piece-pass.ensures.mine;
      share = c.next_piece-pass.ensures.share;
    })
    c.deref.result.now c.append.new.self Failed tt call

pub returns-in-Failed-append-clause-on : goal.returns-in-Failed-append-clause-on
returns-in-Failed-append-clause-on g c =
    let call = answered g.K.Store c.book.inside.store c.append.new.self c.append.result Failed c.deref.result.now (record {
      bytes = c.append.ensures.bytes;
      settled = c.append.ensures.settled;
      name = c.append.ensures.opened;
      crash = c.append.ensures.crash;
      time = c.append.ensures.time;
      cause = c.append.ensures.cause;
    }) c.in-Failed-append.is in
    torn_goes g.K.Store c.args.lock.now c.args.book.now c.book.inside.store c.book.inside.first.value c.book.inside.pass c.in-Some.pass c.next_piece-pass.result.0 c.book.inside.count c.book.inside.wrote (record {
      view = c.book.view_is;
      is = sym c.take.ensures.value ∙ c.in-Some.is;
      order = c.book.invariant;
      behind = c.requires;
      whole = c.in-All.is;
      of_lock = c.next_piece-pass.ensures.lock;
      seen = c.next_piece-pass.ensures.seen;
      mine = c.next_piece-pass.ensures.mine;
      share = c.next_piece-pass.ensures.share;
    })
    g.met.K.Store.only_now c.deref.result.now c.append.new.self Failed tt call

pub invariant_of-book-in-OutOfMemory-append : goal.invariant_of-book-in-OutOfMemory-append
invariant_of-book-in-OutOfMemory-append g c =
    let call = answered g.K.Store c.book.inside.store c.append.new.self c.append.result OutOfMemory c.deref.result.now (record {
      bytes = c.append.ensures.bytes;
      settled = c.append.ensures.settled;
      name = c.append.ensures.opened;
      crash = c.append.ensures.crash;
      time = c.append.ensures.time;
      cause = c.append.ensures.cause;
    }) c.in-OutOfMemory-append.is in
    torn_order g.K.Store c.args.lock.now c.args.book.now c.book.inside.store c.book.inside.first.value c.book.inside.pass c.in-Some.pass c.next_piece-pass.result.0 c.book.inside.count c.book.inside.wrote (record {
      view = c.book.view_is;
      is = sym c.take.ensures.value ∙ c.in-Some.is;
      order = c.book.invariant;
      behind = c.requires;
      whole = c.in-All.is;
      of_lock = c.next_piece-pass.ensures.lock;
      seen = c.next_piece-pass.ensures.seen;
      mine = c.next_piece-pass.ensures.mine;
      share = c.next_piece-pass.ensures.share;
    })
    c.deref.result.now c.append.new.self OutOfMemory tt call

pub returns-clause-on : goal.returns-clause-on
returns-clause-on g c =
    let call = answered g.K.Store c.book.inside.store c.append.new.self c.append.result OutOfMemory c.deref.result.now (record {
      bytes = c.append.ensures.bytes;
      settled = c.append.ensures.settled;
      name = c.append.ensures.opened;
      crash = c.append.ensures.crash;
      time = c.append.ensures.time;
      cause = c.append.ensures.cause;
    }) c.in-OutOfMemory-append.is in
    torn_goes g.K.Store c.args.lock.now c.args.book.now c.book.inside.store c.book.inside.first.value c.book.inside.pass c.in-Some.pass c.next_piece-pass.result.0 c.book.inside.count c.book.inside.wrote (record {
      view = c.book.view_is;
      is = sym c.take.ensures.value ∙ c.in-Some.is;
      order = c.book.invariant;
      behind = c.requires;
      whole = c.in-All.is;
      of_lock = c.next_piece-pass.ensures.lock;
      seen = c.next_piece-pass.ensures.seen;
      mine = c.next_piece-pass.ensures.mine;
      share = c.next_piece-pass.ensures.share;
    })
    g.met.K.Store.only_now c.deref.result.now c.append.new.self OutOfMemory tt call
