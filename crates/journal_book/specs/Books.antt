-- What contracts see of a book.
use Rattle.std.specs.Prelude.{◌≡◌, ◌≤◌, ℕ, List, [], ◌++◌, length, take, Option, Some, None}
use Rattle.atomic_table.specs.Seated.{TableId}
use Rattle.edge_io.specs.declared.sink.Wrote.{Wrote}
use Rattle.grow_lock.specs.Passes.{LockModel, PassModel}
use Rattle.grow_lock.specs.Shares.{Share, nothing}
use Rattle.session_rules.specs.declared.entry.Entry.{Entry}
use Rattle.session_rules.specs.Journal.{Head}
use Rattle.record_rules.specs.Tables.{entries_bytes}

-- the store, and as it was when the book was made; the book's own pass of the session's lock; how many entries are kept; and what the store answered last
pub record BookModel (K : Type 0) : Type 0 where
  pub store : K
  pub first : K
  pub pass : PassModel Head Entry
  pub count : ℕ
  pub wrote : Wrote

-- the entries that are kept
abbrev pub entries_kept : {K : Type 0} → BookModel K → List Entry
entries_kept b = take b.count b.pass.seen

-- ---- what of a book never changes

-- of which lock's journal it is, and that lock's head; the places and the share of the book's pass, which appends nothing; and the store as it was when the
-- book was made
pub record BookHead (K : Type 0) : Type 0 where
  pub id : TableId
  pub head : Option Head
  pub mine : List ℕ
  pub share : Share
  pub first : K

abbrev pub head_by : {K : Type 0} → K → PassModel Head Entry → BookHead K
head_by first pass = record { id = pass.id; head = pass.head; mine = pass.mine; share = pass.share; first = first }

abbrev pub head_of_book : {K : Type 0} → BookModel K → BookHead K
head_of_book b = head_by b.first b.pass

-- it is a book of this lock's journal
abbrev pub IsBehind : {K : Type 0} → LockModel Head Entry → BookHead K → Type 0
IsBehind lock behind = (behind.id ≡ lock.id) × (behind.head ≡ Some lock.head)

-- ---- a pass that may be out

-- no table's name
abbrev pub no_table : TableId
no_table = record { words = 0; slots = 0; views_name = 0; atom = 0; block = 0; offset = 0; slot_names = [] }

-- the pass of no lock
abbrev pub no_pass : PassModel Head Entry
no_pass = record { id = no_table; head = None; seen = []; found = []; mine = []; share = nothing }

abbrev pub pass_in : Option (PassModel Head Entry) → PassModel Head Entry
pass_in None = no_pass
pass_in (Some pass) = pass

abbrev pub book_by : {K : Type 0} → K → K → Option (PassModel Head Entry) → ℕ → Wrote → BookModel K
book_by store first pass count wrote = record { store = store; first = first; pass = pass_in pass; count = count; wrote = wrote }

-- ---- pieces of a journal

-- the bytes are those of the entries of a journal between two numbers
pub record IsPiece (j : List Entry) (from to : ℕ) (bytes : List ℕ) : Type 0 where
  pub later : from ≤ to
  pub within : to ≤ length j
  pub bytes_are : entries_bytes (take to j) ≡ entries_bytes (take from j) ++ bytes

-- and there are some, unless the journal ends there
pub record IsNextPiece (j : List Entry) (from to : ℕ) (bytes : List ℕ) : Type 0 where
  pub piece : IsPiece j from to bytes
  pub ends : to ≡ from → from ≡ length j
