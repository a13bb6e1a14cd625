-- What a record stands for: the head, and the longest list of whole entries, up to the first field that breaks its rule.
use Rattle.std.specs.Prelude.{◌≡◌, ◌<◌, ◌⊎◌, ℕ, zero, suc, List, [], ◌∷◌, ◌++◌, length, drop, Option, Some, None, Ok, Err}
use Rattle.byteorder.specs.Endian.{little_number}
use Rattle.wire_num.specs.Field.{place_in}
use Rattle.wire_num.specs.Caused.{Caused}
use Rattle.session_rules.specs.declared.entry.Entry.{Entry}
use Rattle.session_rules.specs.Journal.{Head}
use Rattle.record_rules.specs.Tables.{record_bytes}
use Rattle.record_rules.specs.Reading.{Lack, head_at, framed_at}
use Rattle.record_rules.specs.Reading.Lack.{Missing, Broken}

-- where a record ends, by the place of the field or the entry that isn't all there, or of the first field that breaks its rule
pub data End : Type 0 where
  Unfinished : ℕ → End
  Faulty : ℕ → End

-- the head, where it is whole; the whole entries before the end; and the end
pub record Recorded : Type 0 where
  pub head : Option Head
  pub entries : List Entry
  pub end : End

abbrev pub end_by : Lack → ℕ → End
end_by Missing at = Unfinished at
end_by Broken at = Faulty at

-- whole entries, why the next one isn't read, and the bytes from there on
pub record Entries : Type 0 where
  pub entries : List Entry
  pub lack : Lack
  pub left : List ℕ

abbrev pub with_entry : Entry → Entries → Entries
with_entry e es = record es { entries = e ∷ es.entries }

abbrev pub entry_and : Caused Lack Entry → (List ℕ → Entries) → Entries
entry_and (Ok v) others = with_entry v.0 (others v.1)
entry_and (Err e) others = record { entries = []; lack = e.0; left = e.1 }

-- at most so many entries
abbrev pub entries_in : ℕ → List ℕ → Entries
entries_in zero bs = record { entries = []; lack = Missing; left = bs }
entries_in (suc n) bs = entry_and (framed_at bs) (entries_in n)

-- all entries of these bytes, each of which takes a byte at least
abbrev pub entries_of : List ℕ → Entries
entries_of bs = entries_in (suc (length bs)) bs

abbrev pub recorded_entries : List ℕ → Head → Entries → Recorded
recorded_entries bytes head es = record { head = Some head; entries = es.entries; end = end_by es.lack (place_in bytes es.left) }

abbrev pub recorded : List ℕ → Caused Lack Head → Recorded
recorded bytes (Ok v) = recorded_entries bytes v.0 (entries_of v.1)
recorded bytes (Err e) = record { head = None; entries = []; end = end_by e.0 (place_in bytes e.1) }

-- what a record's bytes stand for
unfoldable pub journal_of_record : List ℕ → Recorded
journal_of_record bytes = recorded bytes (head_at bytes)

-- ---- the same without reading

-- less than a whole entry: a part of its length, or fewer bytes behind it than it says
abbrev pub IsPart : List ℕ → Type 0
IsPart bytes = (length bytes < 2) ⊎ (length (drop 2 bytes) < little_number 2 bytes)

-- the bytes are the record of a head and a journal, and then less than a whole entry
pub record StandsFor (bytes : List ℕ) (head : Head) (j : List Entry) : Type 0 where
  pub part : List ℕ
  pub whole : bytes ≡ record_bytes head j ++ part
  pub partial : IsPart part

-- a list of entries goes on as another one
abbrev pub BeginsWith : List Entry → List Entry → Type 0
BeginsWith front all = (more : List Entry) × (all ≡ front ++ more)
