-- What a book's store keeps of the journal, and what a crash may leave of it.
use Rattle.std.specs.Prelude.{◌≡◌, ◌≤◌, ℕ, List, length, take, Option, Some, None, IfSome, ⊤}
use Rattle.edge_io.specs.declared.sink.Wrote.{Wrote}
use Rattle.edge_io.specs.declared.sink.Wrote.TheVariants.{All, Failed, OutOfMemory}
use Rattle.edge_io.specs.declared.store.Store as stores
use Rattle.edge_io.specs.Faults.{Rose}
use Rattle.edge_io.specs.Sink.{WriteCause}
use Rattle.edge_io.specs.Store.{LeavesOnly}
use Rattle.grow_lock.specs.Journal.{StartsWith}
use Rattle.session_rules.specs.declared.entry.Entry.{Entry}
use Rattle.session_rules.specs.Journal.{Head}
use Rattle.record_rules.specs.Tables.{record_bytes}
use Rattle.grow_lock.specs.Passes.{PassModel}
use Rattle.journal_book.specs.Books.{BookModel, entries_kept, head_of_book, book_by}

-- ---- bytes against those that are due

-- a call of the store has failed, or wanted memory
abbrev pub IsTorn : Wrote → Type 0
IsTorn All = ⊥
IsTorn Failed = ⊤
IsTorn OutOfMemory = ⊤

-- just these; or where a call has failed these, and something behind them
abbrev pub StandsAs : Wrote → List ℕ → List ℕ → Type 0
StandsAs All due bytes = bytes ≡ due
StandsAs Failed due bytes = StartsWith bytes due
StandsAs OutOfMemory due bytes = StartsWith bytes due

-- the store tells its bytes, and they stand so
abbrev pub TellsAs : Wrote → List ℕ → Option (List ℕ) → Type 0
TellsAs wrote due None = ⊥
TellsAs wrote due (Some bytes) = StandsAs wrote due bytes

-- the store tells its bytes, and they begin with these
abbrev pub TellsFront : List ℕ → Option (List ℕ) → Type 0
TellsFront due None = ⊥
TellsFront due (Some bytes) = StartsWith bytes due

-- ---- crashes

-- each outcome begins with these bytes
abbrev pub BeginWith : List ℕ → (List ℕ → Type 0) → Type 0
BeginWith due outcomes = (c : List ℕ) → outcomes c → StartsWith c due

-- since some moment, which isn't to come, each crash leaves bytes that begin with these
pub record IsSafe {K : Type 0} (k : stores.Ghosts K) (store : K) (due : List ℕ) : Type 0 where
  pub since : ℕ
  pub by_now : since ≤ k.moment store
  pub each : BeginWith due (k.left_since store since)

-- a store that told these bytes at first: the bytes that are due begin with them; it tells those that are due; a crash leaves them now; and a crash at any
-- moment since then leaves what it told at first, each with something behind it or not
pub record Stands {K : Type 0} (k : stores.Ghosts K) (bytes : List ℕ) (first store : K) (wrote : Wrote) (due : List ℕ) : Type 0 where
  pub begins : StartsWith due bytes
  pub told : TellsAs wrote due (k.kept store)
  pub crash : BeginWith due (k.may_leave store)
  pub any_moment : LeavesOnly k.moment k.left_since first store (λ c. StartsWith c bytes)

-- ---- books

-- what holds of every book: its pass is of a lock with a head; it has seen the entries that are kept; the store's count of faults rose since the book was made
-- where the store has failed, and else stands; the store has its name; and where it told its bytes at first, they stand for the entries kept
pub record IsKeeping {K : Type 0} (k : stores.Ghosts K) (b : BookModel K) : Type 0 where
  pub head : Head
  pub head_is : b.pass.head ≡ Some head
  pub within : b.count ≤ length b.pass.seen
  pub cause : WriteCause b.wrote (k.faults b.first) (k.faults b.store)
  pub name : k.opened b.store ≡ k.opened b.first
  pub stands : IfSome (k.kept b.first) (λ bytes. Stands k bytes b.first b.store b.wrote (record_bytes head (entries_kept b)))

-- a book whose pass is in keeps so
abbrev pub IsInOrder : {K : Type 0} → stores.Ghosts K → K → K → Option (PassModel Head Entry) → ℕ → Wrote → Type 0
IsInOrder k store first None count wrote = ⊥
IsInOrder k store first (Some pass) count wrote = IsKeeping k (book_by store first (Some pass) count wrote)

-- the store has failed, so its count of faults rose
pub record HasFailed {K : Type 0} (k : stores.Ghosts K) (b : BookModel K) : Type 0 where
  pub wrote : b.wrote ≡ Failed
  pub rose : Rose (k.faults b.first) (k.faults b.store)

-- ---- calls

-- of a call: a crash at any moment of it leaves what begins with the entries that were kept before it, and from its end on with those that are kept after it
pub record IsCrashSafe {K : Type 0} (k : stores.Ghosts K) (head : Head) (old new : BookModel K) : Type 0 where
  pub within : LeavesOnly k.moment k.left_since old.store new.store (λ c. StartsWith c (record_bytes head (entries_kept old)))
  pub after : IsSafe k new.store (record_bytes head (entries_kept new))

-- what stays, what only grows, that nothing is done where the store has failed before, and, where it told its bytes at first, what a crash may leave
pub record GoesOn {K : Type 0} (k : stores.Ghosts K) (head : Head) (old new : BookModel K) : Type 0 where
  pub same : head_of_book new ≡ head_of_book old
  pub seen : StartsWith new.pass.seen old.pass.seen
  pub list : StartsWith (entries_kept new) (entries_kept old)
  pub torn : IsTorn old.wrote → new ≡ old
  pub crash : IfSome (k.kept old.first) (λ _. IsCrashSafe k head old new)

-- ---- the end

-- what a store keeps of the closing journal once its book has ended: at least so many entries, in just their record, or in bytes that begin with it where a call has
-- failed; its count of faults rose where it has failed, and else stands
pub record HasEnded {K : Type 0} (k : stores.Ghosts K) (first store : K) (wrote : Wrote) (head : Head) (closing : List Entry) (least : ℕ) : Type 0 where
  pub count : ℕ
  pub enough : least ≤ count
  pub within : count ≤ length closing
  pub cause : WriteCause wrote (k.faults first) (k.faults store)
  pub name : k.opened store ≡ k.opened first
  pub stands : IfSome (k.kept first) (λ bytes. Stands k bytes first store wrote (record_bytes head (take count closing)))
