-- What contracts see of a keeper.
use Rattle.std.specs.Prelude.{ℕ, length, Option, Some, None}
use Rattle.grow_lock.specs.Passes.{LockModel, PassModel, IsPassOf}
use Rattle.session_rules.specs.declared.entry.Entry.{Entry}
use Rattle.session_rules.specs.Journal.{Head}
use Rattle.journal_book.specs.Books.{BookHead, IsBehind}

-- the lock of a book
abbrev pub BookLock : Type 0 → Type 0
BookLock K = LockModel (BookHead K) Entry

-- a pass of a book's lock
abbrev pub BookPass : Type 0 → Type 0
BookPass K = PassModel (BookHead K) Entry

-- the lock of the book, and how many first entries of the session's journal it has seen to be kept
pub record KeeperModel (K : Type 0) : Type 0 where
  pub books : BookLock K
  pub kept : ℕ

-- how many entries a pass has seen to be kept
abbrev pub kept_by : {K : Type 0} → Option (BookPass K) → ℕ
kept_by None = 0
kept_by (Some place) = length place.seen

abbrev pub keeper_by : {K : Type 0} → BookLock K → Option (BookPass K) → KeeperModel K
keeper_by books place = record { books = books; kept = kept_by place }

-- a pass is of the lock of a book, which is one of the session's journal
abbrev pub IsKeeper : {K : Type 0} → BookLock K → LockModel Head Entry → Option (BookPass K) → Type 0
IsKeeper books lock None = ⊥
IsKeeper books lock (Some place) = IsPassOf books place × IsBehind lock books.head
