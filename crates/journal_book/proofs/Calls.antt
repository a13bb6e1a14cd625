-- What a call of a book does.
use Rattle.std.proofs.Common.{◌≡◌, ℕ, List, take, refl, ap, sym, subst, ◌∙◌, arith, Some, None}
use Rattle.std.specs.Prelude.{Option, IfSome}
use Rattle.edge_io.specs.declared.sink.Wrote.{Wrote}
use Rattle.edge_io.specs.declared.sink.Wrote.TheVariants.{All, Failed}
use Rattle.edge_io.specs.declared.store.Store as stores
use Rattle.edge_io.specs.Sink.{WriteCause}
use Rattle.grow_lock.specs.Journal.{StartsWith}
use Rattle.grow_lock.specs.Passes.{PassModel, LockModel, IsPassOf}
use Rattle.grow_lock.proofs.Lists.{starts_trans, starts_itself}
use Rattle.session_rules.specs.declared.entry.Entry.{Entry}
use Rattle.session_rules.specs.Journal.{Head}
use Rattle.record_rules.specs.Tables.{record_bytes}
use Rattle.journal_book.specs.Books.{BookModel, BookHead, IsPiece, book_by, entries_kept, head_by, head_of_book, IsBehind}
use Rattle.journal_book.specs.Keeping.{IsTorn, Stands, IsKeeping, IsInOrder, HasFailed, GoesOn}
use Rattle.journal_book.proofs.Pieces.{kept_on}
use Rattle.journal_book.proofs.Steps.{IsAppend, seen_more, kept_piece, torn_piece, crash_same, crash_call, crash_then}

module _ {K : Type 0} (k : stores.Ghosts K) where
  -- what holds where the bytes of one head are those of another
  stands_head : (head : Head) (b : BookModel K) (i : IsKeeping k b) → b.pass.head ≡ Some head → IfSome (k.kept b.first) (λ bytes. Stands k bytes b.first b.store b.wrote (record_bytes head (entries_kept b)))
  stands_head head b i is =
      let heads : Some i.head ≡ Some head = sym i.head_is ∙ is in
      let same : i.head ≡ head = cc heads in
      subst (λ (h : Head). IfSome (k.kept b.first) (λ bytes. Stands k bytes b.first b.store b.wrote (record_bytes h (entries_kept b)))) same i.stands

  -- one call after another
  pub goes_then : (head : Head) (a b c : BookModel K) → GoesOn k head a b → GoesOn k head b c → GoesOn k head a c
  goes_then head a b c x y = record {
    same = y.same ∙ x.same;
    seen = starts_trans c.pass.seen b.pass.seen a.pass.seen y.seen x.seen;
    list = starts_trans (entries_kept c) (entries_kept b) (entries_kept a) y.list x.list;
    torn = λ t. let same = x.torn t in y.torn (subst (λ (m : BookModel K). IsTorn m.wrote) (sym same) t) ∙ same;
    crash = crash_then k head a b c (ap (λ (h : BookHead K). h.first) x.same) x.list x.crash y.crash;
  }

  -- it stays a book of its lock's journal
  pub behind_on : (lock : LockModel Head Entry) (old new : BookModel K) → GoesOn k lock.head old new → IsBehind lock (head_of_book old) → IsBehind lock (head_of_book new)
  behind_on lock old new on behind = subst (λ (h : BookHead K). IsBehind lock h) (sym on.same) behind

  -- a failure that is known
  pub failed_before : (b : BookModel K) → IsKeeping k b → b.wrote ≡ Failed → HasFailed k b
  failed_before b i is = record { wrote = is; rose = subst (λ (w : Wrote). WriteCause w (k.faults b.first) (k.faults b.store)) is i.cause }

  module _ (only_now : (s : K) (c : List ℕ) → k.left_since s (k.moment s) c → k.may_leave s c) where
    -- before the first call
    pub goes_none : (head : Head) (b : BookModel K) → IsKeeping k b → b.pass.head ≡ Some head → GoesOn k head b b
    goes_none head b i is = record {
      same = refl;
      seen = starts_itself b.pass.seen;
      list = starts_itself (entries_kept b);
      torn = λ t. refl;
      crash = crash_same k only_now head b b.pass (stands_head head b i is) (stands_head head b i is);
    }

  -- a book that was opened
  pub keeping_of : (old : BookModel K) (store first : K) (o : Option (PassModel Head Entry)) (count : ℕ) (wrote : Wrote) → book_by store first o count wrote ≡ old → IsInOrder k store first o count wrote → IsKeeping k old
  keeping_of old store first None count wrote view order = absurd order
  keeping_of old store first (Some p) count wrote view order = subst (λ (b : BookModel K). IsKeeping k b) view order

  -- a call that does nothing
  pub goes_nowhere : ((s : K) (c : List ℕ) → k.left_since s (k.moment s) c → k.may_leave s c) → (lock : LockModel Head Entry) (old : BookModel K) (store first : K) (o : Option (PassModel Head Entry)) (count : ℕ) (wrote : Wrote)
      → book_by store first o count wrote ≡ old → IsInOrder k store first o count wrote → IsBehind lock (head_of_book old) → GoesOn k lock.head old old
  goes_nowhere only_now lock old store first o count wrote view order behind = goes_none only_now lock.head old (keeping_of old store first o count wrote view order) behind.1

  -- a book whose pass was taken out for a turn of the session, and came back as q
  pub record IsTurned (lock : LockModel Head Entry) (old : BookModel K) (store first : K) (o : Option (PassModel Head Entry)) (p q : PassModel Head Entry) (count : ℕ) (wrote : Wrote) : Type 0 where
    pub view : book_by store first o count wrote ≡ old
    pub is : o ≡ Some p
    pub order : IsInOrder k store first o count wrote
    pub behind : IsBehind lock (head_of_book old)
    pub whole : wrote ≡ All
    pub of_lock : IsPassOf lock q
    pub seen : StartsWith q.seen p.seen
    pub mine : q.mine ≡ p.mine
    pub share : q.share ≡ p.share

  -- a book that was opened
  pub opened_view : (old : BookModel K) (store first : K) (o : Option (PassModel Head Entry)) (p : PassModel Head Entry) (count : ℕ) (wrote : Wrote) → book_by store first o count wrote ≡ old → o ≡ Some p
      → book_by store first (Some p) count wrote ≡ old
  opened_view old store first o p count wrote view is = ap (λ (x : Option (PassModel Head Entry)). book_by store first x count wrote) (sym is) ∙ view

  pub opened_order : (store first : K) (o : Option (PassModel Head Entry)) (p : PassModel Head Entry) (count : ℕ) (wrote : Wrote) → IsInOrder k store first o count wrote → o ≡ Some p
      → IsKeeping k (book_by store first (Some p) count wrote)
  opened_order store first o p count wrote order is = subst (λ (x : Option (PassModel Head Entry)). IsInOrder k store first x count wrote) is order

  module _ (lock : LockModel Head Entry) (old : BookModel K) (store first : K) (o : Option (PassModel Head Entry)) (p q : PassModel Head Entry) (count : ℕ) (wrote : Wrote)
      (t : IsTurned lock old store first o p q count wrote) where
    abbrev before : BookModel K
    before = book_by store first (Some p) count All

    abbrev between : BookModel K
    between = book_by store first (Some q) count All

    is_old : before ≡ old
    is_old = ap (λ (w : Wrote). book_by store first (Some p) count w) (sym t.whole) ∙ opened_view old store first o p count wrote t.view t.is

    keeping_before : IsKeeping k before
    keeping_before = subst (λ (w : Wrote). IsKeeping k (book_by store first (Some p) count w)) t.whole (opened_order store first o p count wrote t.order t.is)

    behind_before : IsBehind lock (head_by first p)
    behind_before = subst (λ (b : BookModel K). IsBehind lock (head_of_book b)) (sym is_old) t.behind

    head_same : q.head ≡ p.head
    head_same = t.of_lock.1 ∙ sym behind_before.1

    keeping_between : IsKeeping k between
    keeping_between = seen_more k before q keeping_before head_same t.seen

    heads_same : head_by first q ≡ head_by first p
    heads_same =
        let ids : q.id ≡ p.id = t.of_lock.0 ∙ sym behind_before.0 in
        λ i. record { id = ids i; head = head_same i; mine = t.mine i; share = t.share i; first = first }

    -- what holds of the old book where it holds of the one that was opened
    on_old : (new : BookModel K) → GoesOn k lock.head before new → GoesOn k lock.head old new
    on_old new g = subst (λ (b : BookModel K). GoesOn k lock.head b new) is_old g

    stands_before : IfSome (k.kept first) (λ bytes. Stands k bytes first store All (record_bytes lock.head (take count p.seen)))
    stands_before = stands_head lock.head before keeping_before behind_before.1

    stands_after : (new : K) (to : ℕ) (wrote : Wrote) → IsKeeping k (book_by new first (Some q) to wrote)
        → IfSome (k.kept first) (λ bytes. Stands k bytes first new wrote (record_bytes lock.head (take to q.seen)))
    stands_after new to wrote i = stands_head lock.head (book_by new first (Some q) to wrote) i t.of_lock.1

    -- nothing was appended
    pub turned_order : IsInOrder k store first (Some q) count wrote
    turned_order = subst (λ (w : Wrote). IsKeeping k (book_by store first (Some q) count w)) (sym t.whole) keeping_between

    pub turned_on : (only_now : (s : K) (c : List ℕ) → k.left_since s (k.moment s) c → k.may_leave s c) → GoesOn k lock.head old (book_by store first (Some q) count wrote)
    turned_on only_now = subst (λ (w : Wrote). GoesOn k lock.head old (book_by store first (Some q) count w)) (sym t.whole) (on_old between (record {
      same = heads_same;
      seen = t.seen;
      list = kept_on q.seen p.seen count count t.seen keeping_before.within (omega arith);
      torn = λ none. absurd none;
      crash = crash_same k only_now lock.head before q stands_before (stands_after store count All keeping_between);
    }))

    -- a piece was
    pub kept_order : (to : ℕ) (piece : List ℕ) (new : K) → IsPiece q.seen count to piece → IsAppend k store new All piece → IsInOrder k new first (Some q) to wrote
    kept_order to piece new pieces call = subst (λ (w : Wrote). IsKeeping k (book_by new first (Some q) to w)) (sym t.whole) (kept_piece k store first q count to piece new keeping_between pieces call)

    pub kept_goes : (only_now : (s : K) (c : List ℕ) → k.left_since s (k.moment s) c → k.may_leave s c) → (to : ℕ) (piece : List ℕ) (new : K) → IsPiece q.seen count to piece → IsAppend k store new All piece
        → GoesOn k lock.head old (book_by new first (Some q) to wrote)
    kept_goes only_now to piece new pieces call = subst (λ (w : Wrote). GoesOn k lock.head old (book_by new first (Some q) to w)) (sym t.whole) (on_old (book_by new first (Some q) to All) (record {
      same = heads_same;
      seen = t.seen;
      list = kept_on q.seen p.seen count to t.seen keeping_before.within pieces.later;
      torn = λ none. absurd none;
      crash = crash_call k only_now lock.head before (book_by new first (Some q) to All) piece All refl stands_before
          (stands_after new to All (kept_piece k store first q count to piece new keeping_between pieces call)) call;
    }))

    -- a front of one was, at most
    pub torn_order : (piece : List ℕ) (new : K) (answer : Wrote) → IsTorn answer → IsAppend k store new answer piece → IsInOrder k new first (Some q) count answer
    torn_order piece new answer torn call = torn_piece k store first q count piece new answer torn keeping_between call

    pub torn_goes : (only_now : (s : K) (c : List ℕ) → k.left_since s (k.moment s) c → k.may_leave s c) → (piece : List ℕ) (new : K) (answer : Wrote) → IsTorn answer → IsAppend k store new answer piece
        → GoesOn k lock.head old (book_by new first (Some q) count answer)
    torn_goes only_now piece new answer torn call = on_old (book_by new first (Some q) count answer) (record {
      same = heads_same;
      seen = t.seen;
      list = kept_on q.seen p.seen count count t.seen keeping_before.within (omega arith);
      torn = λ none. absurd none;
      crash = crash_call k only_now lock.head before (book_by new first (Some q) count answer) piece answer refl stands_before
          (stands_after new count answer (torn_piece k store first q count piece new answer torn keeping_between call)) call;
    })
