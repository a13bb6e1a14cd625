-- What a session's record shows after so many entries, and the text that says so (profile).
use Rattle.std.specs.Prelude.{ℕ, Bool, true, false, List, [], ◌∷◌, ◌++◌, length, nat_le, codes, decimal, if◌then◌else◌, Option, Some, None}
use Rattle.px_core.specs.declared.surface.Size.{Size}
use Rattle.session_rules.specs.declared.entry.Entry.{Entry}
use Rattle.session_rules.specs.Journal.{Head, picture_after_entries}
use Rattle.record_rules.specs.Fields.{colors_bytes}
use Rattle.record_rules.specs.Records.{End, journal_of_record}
use Rattle.record_rules.specs.Records.End.{Unfinished, Faulty}
use Rattle.record_file.specs.Replaying.{Fault, Replayed, replayed}
use Rattle.record_file.specs.Replaying.Fault.{BadForm, BadEntry}

-- what a record shows: the place of the first field that breaks its form, or of the head's field that isn't all there; the number, from 0,
-- of its first entry that isn't legal; that it has only so many entries; or the picture
pub data Shown : Type 0 where
  FormAt : ℕ → Shown
  EntryAt : ℕ → Shown
  OnlyHas : ℕ → Shown
  Pictured : (size : Size) → (picture : List ℕ) → Shown

abbrev pub place_of : End → ℕ
place_of (Unfinished at) = at
place_of (Faulty at) = at

abbrev pub entries_shown : ℕ → End → List Entry → Option Head → Shown
entries_shown stop end j None = FormAt (place_of end)
entries_shown stop end j (Some head) = if nat_le stop (length j) then Pictured head.size (picture_after_entries head.size j stop) else OnlyHas (length j)

abbrev pub fault_shown : ℕ → End → Replayed → Option Fault → Shown
fault_shown stop end r None = entries_shown stop end r.entries r.head
fault_shown stop end r (Some (BadForm at)) = FormAt at
fault_shown stop end r (Some (BadEntry k)) = EntryAt k

-- what a record's bytes show after so many entries, all of them read
abbrev pub shown : ℕ → List ℕ → Shown
shown stop bytes = fault_shown stop (journal_of_record bytes).end (replayed bytes) (replayed bytes).fault

abbrev pub is_picture : Shown → Bool
is_picture (FormAt at) = false
is_picture (EntryAt k) = false
is_picture (OnlyHas l) = false
is_picture (Pictured size picture) = true

-- ---- texts

abbrev pub line_of : List ℕ → List ℕ
line_of text = text ++ 10 ∷ []

-- a word and a number
abbrev pub with_number : List ℕ → ℕ → List ℕ
with_number word n = word ++ decimal n

-- the head of a picture in portable pixel format, with the number of entries as a remark
abbrev pub picture_head : Size → ℕ → List ℕ
picture_head size stop = ((with_number (codes "P6" ++ 10 ∷ codes "# entries ") stop ++ with_number (10 ∷ []) size.w) ++ with_number (32 ∷ []) size.h)
    ++ 10 ∷ codes "255" ++ 10 ∷ []

-- the text that says what is shown: of each pixel red, green and blue, row by row from the top
abbrev pub text_of : ℕ → Shown → List ℕ
text_of stop (FormAt at) = line_of (with_number (codes "record ") at)
text_of stop (EntryAt k) = line_of (with_number (codes "entry ") k)
text_of stop (OnlyHas l) = line_of (with_number (codes "only ") l)
text_of stop (Pictured size picture) = picture_head size stop ++ colors_bytes picture
