-- What a book's store keeps from one call to the next.
use Rattle.std.proofs.Common.{◌≡◌, ℕ, ◌≤◌, List, [], ◌++◌, length, take, refl, ap, sym, subst, ◌∙◌, arith, Some, None, append-nil}
use Rattle.std.specs.Prelude.{Option, IfSome}
use Rattle.std.specs.Io.KnownBytes as known
use Rattle.edge_io.specs.declared.sink.Wrote.{Wrote}
use Rattle.edge_io.specs.declared.sink.Wrote.TheVariants.{All, Failed, OutOfMemory}
use Rattle.edge_io.specs.declared.store.Store as stores
use Rattle.edge_io.specs.Sink.{Appends, WritesFront, WriteCause}
use Rattle.edge_io.specs.Store.{IsSettled, AddsFront, After, Follows, Elapses, LeavesOnly}
use Rattle.grow_lock.specs.Journal.{StartsWith}
use Rattle.grow_lock.specs.Passes.{PassModel}
use Rattle.grow_lock.proofs.Lists.{starts_trans}
use Rattle.session_rules.specs.declared.entry.Entry.{Entry}
use Rattle.session_rules.specs.Journal.{Head}
use Rattle.record_rules.specs.Tables.{record_bytes}
use Rattle.journal_book.specs.Books.{BookModel, IsPiece, book_by, entries_kept}
use Rattle.journal_book.specs.Keeping.{IsTorn, TellsAs, TellsFront, BeginWith, IsSafe, Stands, IsKeeping, IsCrashSafe}
use Rattle.journal_book.proofs.Moments.{started, goes_on, goes_further}
use Rattle.journal_book.proofs.Pieces.{same_front, longer_still, record_begins, record_piece}

-- ---- bytes that are told

module _ {A : Type 0} where
  pub if_then : (o : Option A) (P Q : A → Type 0) → ((x : A) → P x → Q x) → IfSome o P → IfSome o Q
  if_then None P Q f h = tt
  if_then (Some x) P Q f h = f x h

  pub if_both : (o : Option A) (P Q R : A → Type 0) → ((x : A) → P x → Q x → R x) → IfSome o P → IfSome o Q → IfSome o R
  if_both None P Q R f p q = tt
  if_both (Some x) P Q R f p q = f x p q

-- just the bytes that are due begin with them, and so do those of a call that failed
pub tells_front : (wrote : Wrote) (due : List ℕ) (o : Option (List ℕ)) → TellsAs wrote due o → TellsFront due o
tells_front wrote due None told = absurd told
tells_front All due (Some bytes) told = ([], told ∙ sym (append-nil due))
tells_front Failed due (Some bytes) told = told
tells_front OutOfMemory due (Some bytes) told = told

told_more : (due piece : List ℕ) (old new : Option (List ℕ)) → TellsAs All due old → known.Appends old new piece → TellsAs All (due ++ piece) new
told_more due piece None new told added = absurd told
told_more due piece (Some bytes) None told added = absurd added
told_more due piece (Some bytes) (Some now) told added = added ∙ ap (λ bs. bs ++ piece) told

told_torn : (wrote : Wrote) (due piece : List ℕ) (old new : Option (List ℕ)) → IsTorn wrote → TellsAs All due old → WritesFront old new piece → TellsAs wrote due new
told_torn All due piece old new torn told added = absurd torn
told_torn wrote due piece None new torn told added = absurd told
told_torn wrote due piece (Some bytes) None torn told added = absurd added.written
told_torn Failed due piece (Some bytes) (Some now) torn told added = (added.front, added.written ∙ ap (λ bs. bs ++ added.front) told)
told_torn OutOfMemory due piece (Some bytes) (Some now) torn told added = (added.front, added.written ∙ ap (λ bs. bs ++ added.front) told)

-- an answer that isn't `All`
torn_front : (wrote : Wrote) (piece : List ℕ) (old new : Option (List ℕ)) → IsTorn wrote → Appends old new wrote piece → WritesFront old new piece
torn_front All piece old new torn added = absurd torn
torn_front Failed piece old new torn added = added
torn_front OutOfMemory piece old new torn added = added

-- ---- what a crash leaves

-- a settled store that tells just the bytes that are due
settled_begins : (due : List ℕ) (o : Option (List ℕ)) (outcomes : List ℕ → Type 0) → TellsAs All due o → IsSettled o outcomes → BeginWith due outcomes
settled_begins due None outcomes told settled = absurd told
settled_begins due (Some bytes) outcomes told settled = λ c now. ([], settled c now ∙ (told ∙ sym (append-nil due)))

-- what a crash leaves in an append begins with what it might have left before
added_begins : (due piece : List ℕ) (outcomes : List ℕ → Type 0) → BeginWith due outcomes → BeginWith due (After (AddsFront piece) outcomes)
added_begins due piece outcomes here c (d, was, step) = starts_trans c d due (step.front, step.added) (here d was)

-- ---- books

module _ {K : Type 0} (k : stores.Ghosts K) where
  -- a book whose pass has seen more
  pub seen_more : (b : BookModel K) (q : PassModel Head Entry) → IsKeeping k b → q.head ≡ b.pass.head → StartsWith q.seen b.pass.seen → IsKeeping k (record b { pass = q })
  seen_more b q i same on = record {
    head = i.head;
    head_is = same ∙ i.head_is;
    within = longer_still q.seen b.pass.seen b.count on i.within;
    cause = i.cause;
    name = i.name;
    stands = subst (λ (l : List Entry). IfSome (k.kept b.first) (λ bytes. Stands k bytes b.first b.store b.wrote (record_bytes i.head l))) (sym (same_front q.seen b.pass.seen b.count on i.within)) i.stands;
  }

  -- a call of the store, as its clauses tell of it
  pub record IsAppend (old new : K) (wrote : Wrote) (piece : List ℕ) : Type 0 where
    pub bytes : Appends (k.kept old) (k.kept new) wrote piece
    pub settled : wrote ≡ All → IsSettled (k.kept new) (k.may_leave new)
    pub name : k.opened new ≡ k.opened old
    pub crash : Follows (AddsFront piece) (k.may_leave old) (k.may_leave new)
    pub time : Elapses (k.moment old) (k.moment new) (k.left_since old) (k.left_since new) (After (AddsFront piece) (k.may_leave old))
    pub cause : WriteCause wrote (k.faults old) (k.faults new)

  pub answered : (old new : K) (wrote answer : Wrote) (piece : List ℕ) → IsAppend old new wrote piece → wrote ≡ answer → IsAppend old new answer piece
  answered old new wrote answer piece call is = subst (λ (w : Wrote). IsAppend old new w piece) is call

  -- a crash since the book was made leaves what the store told then, also within one call more
  any_more : (bytes due piece : List ℕ) (first old new : K) (wrote : Wrote) → Stands k bytes first old All due → IsAppend old new wrote piece
      → LeavesOnly k.moment k.left_since first new (λ c. StartsWith c bytes)
  any_more bytes due piece first old new wrote s call =
      goes_on k.moment k.left_since first old new (λ c. StartsWith c bytes) (After (AddsFront piece) (k.may_leave old)) s.any_moment call.time
      (λ c now. starts_trans c due bytes (added_begins due piece (k.may_leave old) s.crash c now) s.begins)

  stands_more : (bytes due piece : List ℕ) (first old new : K) → Stands k bytes first old All due → IsAppend old new All piece → Stands k bytes first new All (due ++ piece)
  stands_more bytes due piece first old new s call =
      let told : TellsAs All (due ++ piece) (k.kept new) = told_more due piece (k.kept old) (k.kept new) s.told call.bytes in
      record {
        begins = starts_trans (due ++ piece) due bytes (piece, refl) s.begins;
        told = told;
        crash = settled_begins (due ++ piece) (k.kept new) (k.may_leave new) told (call.settled refl);
        any_moment = any_more bytes due piece first old new All s call;
      }

  stands_torn : (bytes due piece : List ℕ) (first old new : K) (wrote : Wrote) → IsTorn wrote → Stands k bytes first old All due → IsAppend old new wrote piece → Stands k bytes first new wrote due
  stands_torn bytes due piece first old new wrote torn s call = record {
    begins = s.begins;
    told = told_torn wrote due piece (k.kept old) (k.kept new) torn s.told (torn_front wrote piece (k.kept old) (k.kept new) torn call.bytes);
    crash = λ c now. added_begins due piece (k.may_leave old) s.crash c (call.crash c now);
    any_moment = any_more bytes due piece first old new wrote s call;
  }

  -- a piece is kept
  pub kept_piece : (store first : K) (q : PassModel Head Entry) (count to : ℕ) (piece : List ℕ) (new : K) → IsKeeping k (book_by store first (Some q) count All) → IsPiece q.seen count to piece
      → IsAppend store new All piece → IsKeeping k (book_by new first (Some q) to All)
  kept_piece store first q count to piece new i p call = record {
    head = i.head;
    head_is = i.head_is;
    within = p.within;
    cause = call.cause ∙ i.cause;
    name = call.name ∙ i.name;
    stands = subst (λ (due : List ℕ). IfSome (k.kept first) (λ bytes. Stands k bytes first new All due)) (sym (record_piece i.head q.seen count to piece p))
        (if_then (k.kept first) (λ bytes. Stands k bytes first store All (record_bytes i.head (take count q.seen)))
        (λ bytes. Stands k bytes first new All (record_bytes i.head (take count q.seen) ++ piece))
        (λ bytes s. stands_more bytes (record_bytes i.head (take count q.seen)) piece first store new s call) i.stands);
  }

  -- where nothing had failed, the count of faults is as after the call alone
  cause_on : (wrote : Wrote) (first old new : ℕ) → old ≡ first → WriteCause wrote old new → WriteCause wrote first new
  cause_on wrote first old new same cause = subst (λ n. WriteCause wrote n new) same cause

  -- a front of it, at most
  pub torn_piece : (store first : K) (q : PassModel Head Entry) (count : ℕ) (piece : List ℕ) (new : K) (wrote : Wrote) → IsTorn wrote → IsKeeping k (book_by store first (Some q) count All)
      → IsAppend store new wrote piece → IsKeeping k (book_by new first (Some q) count wrote)
  torn_piece store first q count piece new wrote torn i call = record {
    head = i.head;
    head_is = i.head_is;
    within = i.within;
    cause = cause_on wrote (k.faults first) (k.faults store) (k.faults new) i.cause call.cause;
    name = call.name ∙ i.name;
    stands = if_then (k.kept first) (λ bytes. Stands k bytes first store All (record_bytes i.head (take count q.seen)))
        (λ bytes. Stands k bytes first new wrote (record_bytes i.head (take count q.seen)))
        (λ bytes s. stands_torn bytes (record_bytes i.head (take count q.seen)) piece first store new wrote torn s call) i.stands;
  }

  module _ (only_now : (s : K) (c : List ℕ) → k.left_since s (k.moment s) c → k.may_leave s c) where
    begun_told : (store : K) (due : List ℕ) (o : Option (List ℕ)) → k.kept store ≡ o → IfSome o (λ bytes. bytes ≡ due) → IsSettled o (k.may_leave store)
        → IfSome o (λ bytes. Stands k bytes store store All due)
    begun_told store due None is told settled = tt
    begun_told store due (Some bytes) is told settled =
        let here : BeginWith bytes (k.may_leave store) = λ c now. ([], settled c now ∙ sym (append-nil bytes)) in
        record {
          begins = ([], sym told ∙ sym (append-nil bytes));
          told = subst (λ (o : Option (List ℕ)). TellsAs All due o) (sym is) told;
          crash = λ c now. subst (λ (bs : List ℕ). StartsWith c bs) told (here c now);
          any_moment = started k.moment k.left_since store (λ c. StartsWith c bytes) (λ c left. here c (only_now store c left));
        }

    -- a new book
    pub begun : (store : K) (p : PassModel Head Entry) (head : Head) (count : ℕ) → p.head ≡ Some head → count ≤ length p.seen
        → IfSome (k.kept store) (λ bytes. bytes ≡ record_bytes head (take count p.seen)) → IsSettled (k.kept store) (k.may_leave store) → IsKeeping k (book_by store store (Some p) count All)
    begun store p head count head_is le told settled = record {
      head = head;
      head_is = head_is;
      within = le;
      cause = refl;
      name = refl;
      stands = begun_told store (record_bytes head (take count p.seen)) (k.kept store) refl told settled;
    }

    -- since this moment a crash leaves what is kept
    pub safe_now : (bytes due : List ℕ) (first store : K) (wrote : Wrote) → Stands k bytes first store wrote due → IsSafe k store due
    safe_now bytes due first store wrote s = record { since = k.moment store; by_now = omega arith; each = λ c left. s.crash c (only_now store c left) }

    abbrev StandsFor : Head → BookModel K → List ℕ → Type 0
    StandsFor head b bytes = Stands k bytes b.first b.store b.wrote (record_bytes head (entries_kept b))

    -- a call in which the store wasn't called
    pub crash_same : (head : Head) (b : BookModel K) (q : PassModel Head Entry) → IfSome (k.kept b.first) (StandsFor head b) → IfSome (k.kept b.first) (StandsFor head (record b { pass = q }))
        → IfSome (k.kept b.first) (λ _. IsCrashSafe k head b (record b { pass = q }))
    crash_same head b q before after =
        if_both (k.kept b.first) (StandsFor head b) (StandsFor head (record b { pass = q })) (λ _. IsCrashSafe k head b (record b { pass = q }))
        (λ bytes s t. record {
          within = started k.moment k.left_since b.store (λ c. StartsWith c (record_bytes head (entries_kept b))) (λ c left. s.crash c (only_now b.store c left));
          after = safe_now bytes (record_bytes head (take b.count q.seen)) b.first b.store b.wrote t;
        }) before after

    -- a call of the store
    pub crash_call : (head : Head) (b c : BookModel K) (piece : List ℕ) (wrote : Wrote) → c.first ≡ b.first → IfSome (k.kept b.first) (StandsFor head b) → IfSome (k.kept c.first) (StandsFor head c)
        → IsAppend b.store c.store wrote piece → IfSome (k.kept b.first) (λ _. IsCrashSafe k head b c)
    crash_call head b c piece wrote same before after call =
        if_both (k.kept b.first) (StandsFor head b) (StandsFor head c) (λ _. IsCrashSafe k head b c)
        (λ bytes s t. record {
          within = goes_on k.moment k.left_since b.store b.store c.store (λ d. StartsWith d (record_bytes head (entries_kept b))) (After (AddsFront piece) (k.may_leave b.store))
              (started k.moment k.left_since b.store (λ d. StartsWith d (record_bytes head (entries_kept b))) (λ d left. s.crash d (only_now b.store d left))) call.time
              (added_begins (record_bytes head (entries_kept b)) piece (k.may_leave b.store) s.crash);
          after = safe_now bytes (record_bytes head (entries_kept c)) c.first c.store c.wrote t;
        }) before (subst (λ (f : K). IfSome (k.kept f) (StandsFor head c)) same after)

  -- one call after another
  pub crash_then : (head : Head) (a b c : BookModel K) → b.first ≡ a.first → StartsWith (entries_kept b) (entries_kept a) → IfSome (k.kept a.first) (λ _. IsCrashSafe k head a b)
      → IfSome (k.kept b.first) (λ _. IsCrashSafe k head b c) → IfSome (k.kept a.first) (λ _. IsCrashSafe k head a c)
  crash_then head a b c same on one two =
      if_both (k.kept a.first) (λ _. IsCrashSafe k head a b) (λ _. IsCrashSafe k head b c) (λ _. IsCrashSafe k head a c)
      (λ _ x y. record {
        within = goes_further k.moment k.left_since a.store b.store c.store (λ d. StartsWith d (record_bytes head (entries_kept a))) (λ d. StartsWith d (record_bytes head (entries_kept b))) x.within y.within
            (λ d s. starts_trans d (record_bytes head (entries_kept b)) (record_bytes head (entries_kept a)) s (record_begins head (entries_kept b) (entries_kept a) on));
        after = y.after;
      }) one (subst (λ (f : K). IfSome (k.kept f) (λ _. IsCrashSafe k head b c)) same two)
