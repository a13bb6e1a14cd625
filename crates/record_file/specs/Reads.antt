-- What the calls say that read a record.
use Rattle.std.specs.Prelude.{◌≡◌, ◌≤◌, ℕ, List, length, take, drop, Result, Ok, Err, ⊤}
use Rattle.wire_num.specs.declared.short.Short.{Short}
use Rattle.wire_num.specs.Field.{Read}
use Rattle.wire_num.specs.Caused.{Caused}
use Rattle.wire_num.specs.Cursor.{CursorOf, rest}
use Rattle.draw_ops.specs.Ranges.{HasColors}
use Rattle.session_rules.specs.Journal.{Head, Row}
use Rattle.session_rules.specs.declared.entry.Entry.{Entry}
use Rattle.session_rules.specs.declared.entry.Entry.TheVariants.{Join, Leave, Give, Input, Draw}
use Rattle.session_core.specs.declared.head.Invite.{Invite}
use Rattle.session_core.specs.Heads.{rows_of}
use Rattle.record_rules.specs.Reading.{Lack, counted_at}
use Rattle.record_rules.specs.Reading.Lack.{Missing, Broken}
use Rattle.record_file.specs.declared.read_fault.BodyFault.{BodyFault}
use Rattle.record_file.specs.declared.read_fault.ReadFault.{ReadFault}
use Rattle.record_file.specs.declared.read_fault.BodyFault.TheVariants as refusal
use Rattle.record_file.specs.declared.read_fault.ReadFault.TheVariants as fault
use Rattle.record_file.specs.declared.read_head.RecordHead.{RecordHead}

-- a row as contracts see it, and the head that a record has
abbrev pub row_of : Invite → Row
row_of row = record { name = row.name; role = row.role }

abbrev pub head_of : RecordHead → Head
head_of h = record { size = h.size; rows = rows_of h.rows.items }

-- what an entry draws has colours
abbrev pub IsColored : Entry → Type 0
IsColored (Join v role) = ⊤
IsColored (Leave v) = ⊤
IsColored (Give by to) = ⊤
IsColored (Input by event) = ⊤
IsColored (Draw by d) = HasColors d

-- ---- at a cursor

-- The call read the fields that stand at the cursor, seen by view, and went past them; or it came to a field that is refused, and the
-- cursor stands there; or no memory was left.
abbrev pub ReadsOr : {X A : Type 0} → (X → A) → (List ℕ → Read A) → Result X BodyFault → CursorOf → CursorOf → Type 0
ReadsOr view read (Ok v) old new = (read (rest old) ≡ Ok (view v, rest new)) × (new.bytes ≡ old.bytes)
ReadsOr view read (Err (refusal.Broken at)) old new = (read (rest old) ≡ Err (rest new)) × (new.bytes ≡ old.bytes) × (at ≡ new.at)
ReadsOr view read (Err refusal.OutOfMemory) old new = ⊤

-- The same of fields that are looked at once their bytes are there.
abbrev pub ReadsOnce : {X A : Type 0} → (X → A) → (List ℕ → Caused Lack A) → Result X ReadFault → CursorOf → CursorOf → Type 0
ReadsOnce view read (Ok v) old new = (read (rest old) ≡ Ok (view v, rest new)) × (new.bytes ≡ old.bytes)
ReadsOnce view read (Err (fault.Missing at)) old new = (read (rest old) ≡ Err (Missing, rest new)) × (new.bytes ≡ old.bytes) × (at ≡ new.at)
ReadsOnce view read (Err (fault.Broken at)) old new = (read (rest old) ≡ Err (Broken, rest new)) × (new.bytes ≡ old.bytes) × (at ≡ new.at)
ReadsOnce view read (Err fault.OutOfMemory) old new = ⊤

-- The call found the body behind its length, a cursor with the same offsets that ends where the body does, and went behind it; or not
-- all bytes of the two are there.
abbrev pub FindsBody : Result CursorOf Short → CursorOf → CursorOf → Type 0
FindsBody (Ok body) old new =
    (counted_at (rest old) ≡ Ok (rest body, rest new)) × (new.bytes ≡ old.bytes) × (body.bytes ≡ take new.at old.bytes) × (new.at ≤ length old.bytes)
FindsBody (Err short) old new = counted_at (rest old) ≡ Err (rest old)

-- ---- of a slice

-- The call read what stands at the front of the bytes, seen by view, and how many bytes it has; or it came to the first field that isn't
-- all there, or that breaks its rule; or no memory was left.
abbrev pub ReadsFront : {X A : Type 0} → (X → A) → (List ℕ → Caused Lack A) → Result (X × ℕ) ReadFault → List ℕ → Type 0
ReadsFront view read (Ok v) bytes = (v.1 ≤ length bytes) × (read bytes ≡ Ok (view v.0, drop v.1 bytes))
ReadsFront view read (Err (fault.Missing at)) bytes = (at ≤ length bytes) × (read bytes ≡ Err (Missing, drop at bytes))
ReadsFront view read (Err (fault.Broken at)) bytes = (at ≤ length bytes) × (read bytes ≡ Err (Broken, drop at bytes))
ReadsFront view read (Err fault.OutOfMemory) bytes = ⊤
