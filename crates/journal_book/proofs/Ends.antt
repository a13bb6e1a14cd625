-- The end of a book.
use Rattle.std.proofs.Common.{◌≡◌, ℕ, ◌≤◌, List, length, take, ap, sym, subst, ◌∙◌, arith, Some, None}
use Rattle.std.specs.Prelude.{Option, IfSome}
use Rattle.edge_io.specs.declared.sink.Wrote.{Wrote}
use Rattle.edge_io.specs.declared.sink.Wrote.TheVariants.{All}
use Rattle.std.proofs.lemmas.List.{take_all}
use Rattle.edge_io.specs.declared.store.Store as stores
use Rattle.grow_lock.specs.Journal.{StartsWith}
use Rattle.grow_lock.specs.Passes.{PassModel, LockModel}
use Rattle.grow_lock.proofs.Lists.{starts_trans, length_starts}
use Rattle.session_rules.specs.declared.entry.Entry.{Entry}
use Rattle.session_rules.specs.Journal.{Head}
use Rattle.record_rules.specs.Tables.{record_bytes}
use Rattle.journal_book.specs.Books.{BookModel, BookHead, entries_kept, head_of_book, IsBehind}
use Rattle.journal_book.specs.Keeping.{StandsAs, TellsAs, TellsFront, Stands, IsKeeping, IsSafe, HasEnded}
use Rattle.journal_book.proofs.Pieces.{fronts_begin, same_front, longer_still, take_short, record_begins}
use Rattle.journal_book.proofs.Steps.{if_then, tells_front}

-- just the bytes that are due
tells_all : (wrote : Wrote) (due : List ℕ) (o : Option (List ℕ)) → wrote ≡ All → TellsAs wrote due o → o ≡ Some due
tells_all wrote due None all told = absurd told
tells_all wrote due (Some bytes) all told = ap Some (subst (λ (w : Wrote). StandsAs w due bytes) all told)

module _ {K : Type 0} (k : stores.Ghosts K) where
  ended_book : (lock : LockModel Head Entry) (b : BookModel K) (place closing : List Entry) → IsKeeping k b → b.pass.head ≡ Some lock.head → StartsWith (entries_kept b) place → StartsWith closing b.pass.seen
      → HasEnded k b.first b.store b.wrote lock.head closing (length place)
  ended_book lock b place closing i head_is told on =
      let heads : Some i.head ≡ Some lock.head = sym i.head_is ∙ head_is in
      let head : i.head ≡ lock.head = cc heads in
      record {
        count = b.count;
        enough = (let l = length_starts (entries_kept b) place told in let t = take_short b.count b.pass.seen in omega (arith, l, t));
        within = longer_still closing b.pass.seen b.count on i.within;
        cause = i.cause;
        name = i.name;
        stands = subst (λ (h : Head). IfSome (k.kept b.first) (λ bytes. Stands k bytes b.first b.store b.wrote (record_bytes h (take b.count closing)))) head
            (subst (λ (l : List Entry). IfSome (k.kept b.first) (λ bytes. Stands k bytes b.first b.store b.wrote (record_bytes i.head l))) (sym (same_front closing b.pass.seen b.count on i.within)) i.stands);
      }

  -- the end of a book that comes out of its lock
  pub ended : (lock : LockModel Head Entry) (behind : BookHead K) (b : BookModel K) (place closing : List Entry) (own : PassModel Head Entry) (store : K) (wrote : Wrote) → IsKeeping k b → IsBehind lock behind
      → head_of_book b ≡ behind → StartsWith (entries_kept b) place → StartsWith closing own.seen → own ≡ b.pass → store ≡ b.store → wrote ≡ b.wrote
      → HasEnded k behind.first store wrote lock.head closing (length place)
  ended lock behind b place closing own store wrote i of_lock same told on own_is store_is wrote_is =
      subst (λ (f : K). HasEnded k f store wrote lock.head closing (length place)) (ap (λ (h : BookHead K). h.first) same)
      (subst (λ (s : K). HasEnded k b.first s wrote lock.head closing (length place)) (sym store_is)
      (subst (λ (w : Wrote). HasEnded k b.first b.store w lock.head closing (length place)) (sym wrote_is)
      (ended_book lock b place closing i (ap (λ (h : BookHead K). h.head) same ∙ of_lock.1) told (subst (λ (p : PassModel Head Entry). StartsWith closing p.seen) own_is on))))

  module _ (first store : K) (wrote : Wrote) (head : Head) (closing : List Entry) (least : ℕ) (e : HasEnded k first store wrote head closing least) where
    less : (n : ℕ) → n ≤ least → StartsWith (record_bytes head (take e.count closing)) (record_bytes head (take n closing))
    less n le = record_begins head (take e.count closing) (take n closing) (fronts_begin closing n e.count (let m = e.enough in omega (arith, le, m)))

    front_less : (due shorter : List ℕ) (o : Option (List ℕ)) → StartsWith due shorter → TellsFront due o → TellsFront shorter o
    front_less due shorter None on told = absurd told
    front_less due shorter (Some bytes) on told = starts_trans bytes due shorter told on

    -- what was seen to be kept is kept
    pub kept_at_end : IfSome (k.kept first) (λ _. (n : ℕ) → n ≤ least → TellsFront (record_bytes head (take n closing)) (k.kept store))
    kept_at_end = if_then (k.kept first) (λ bytes. Stands k bytes first store wrote (record_bytes head (take e.count closing))) (λ _. (n : ℕ) → n ≤ least → TellsFront (record_bytes head (take n closing)) (k.kept store))
        (λ bytes s n le. front_less (record_bytes head (take e.count closing)) (record_bytes head (take n closing)) (k.kept store) (less n le)
        (tells_front wrote (record_bytes head (take e.count closing)) (k.kept store) s.told)) e.stands

    -- where nothing has failed, and all of the closing journal was seen to be kept
    pub whole_at_end : IfSome (k.kept first) (λ _. wrote ≡ All → length closing ≤ least → k.kept store ≡ Some (record_bytes head closing))
    whole_at_end = if_then (k.kept first) (λ bytes. Stands k bytes first store wrote (record_bytes head (take e.count closing))) (λ _. wrote ≡ All → length closing ≤ least → k.kept store ≡ Some (record_bytes head closing))
        (λ bytes s all le.
        let front : take e.count closing ≡ closing = take_all e.count closing (let m = e.enough in omega (arith, le, m)) in
        tells_all wrote (record_bytes head (take e.count closing)) (k.kept store) all s.told ∙ ap (λ (l : List Entry). Some (record_bytes head l)) front) e.stands

    -- and a crash leaves it
    pub safe_at_end : (only_now : (s : K) (c : List ℕ) → k.left_since s (k.moment s) c → k.may_leave s c)
        → IfSome (k.kept first) (λ _. (n : ℕ) → n ≤ least → IsSafe k store (record_bytes head (take n closing)))
    safe_at_end only_now = if_then (k.kept first) (λ bytes. Stands k bytes first store wrote (record_bytes head (take e.count closing))) (λ _. (n : ℕ) → n ≤ least → IsSafe k store (record_bytes head (take n closing)))
        (λ bytes s n le. record {
          since = k.moment store;
          by_now = omega arith;
          each = λ c left. starts_trans c (record_bytes head (take e.count closing)) (record_bytes head (take n closing)) (s.crash c (only_now store c left)) (less n le);
        }) e.stands
