-- What the call says that reads a primary order.
use Rattle.std.specs.Prelude.{◌≡◌, ℕ, List, [], ◌∷◌, ◌++◌, Option, Result, Ok, Err, ⊤}
use Rattle.wire_num.specs.Cursor.{CursorOf, rest}
use Rattle.order_fields.specs.OrderTable.{FieldList, Edges, Registers}
use Rattle.order_fields.specs.OrderStream.{primary_at, seen_primary}
use Rattle.order_read.specs.declared.order_fault.OrderFault.{OrderFault}
use Rattle.order_read.specs.declared.order_fault.OrderFault.TheVariants.{BadOrder, OutOfMemory}
use Rattle.order_read.specs.declared.read.Read.{Read}
use Rattle.order_read.specs.Parts.{list_and_bounds_at}
use Rattle.order_read.specs.Told.{told_read}
use Rattle.order_read.specs.Told.Told.{Drawn}
use Rattle.order_read.specs.Told.{optional_rect}

-- the call read a drawing and kept it
pub record IsDrawn (control : ℕ) (before after : Registers) (read : Read) (old new : CursorOf) : Type 0 where
  pub fields : FieldList
  pub bounds : Option Edges
  pub stands : primary_at before control (rest old) ≡ Ok (seen_primary before fields bounds, rest new)
  pub bytes : new.bytes ≡ old.bytes
  pub told : (body : List ℕ) → told_read body read ≡ Drawn fields (optional_rect bounds)
  pub kept : after ≡ (seen_primary before fields bounds).after

-- the call read the drawing behind the type of an order, and kept it
pub record IsTyped (kind size control : ℕ) (before after : Registers) (read : Read) (old new : CursorOf) : Type 0 where
  pub fields : FieldList
  pub bounds : Option Edges
  pub stands : list_and_bounds_at kind size control before (rest old) ≡ Ok ((fields, bounds), rest new)
  pub bytes : new.bytes ≡ old.bytes
  pub told : (body : List ℕ) → told_read body read ≡ Drawn fields (optional_rect bounds)
  pub kept : after ≡ (seen_primary before fields bounds).after

abbrev pub ReadsTyped : ℕ → ℕ → ℕ → Registers → Registers → Result Read OrderFault → CursorOf → CursorOf → Type 0
ReadsTyped kind size control before after (Ok read) old new = IsTyped kind size control before after read old new
ReadsTyped kind size control before after (Err (BadOrder at)) old new = (list_and_bounds_at kind size control before (rest old) ≡ Err (rest new)) × (new.bytes ≡ old.bytes) × (at ≡ new.at)
ReadsTyped kind size control before after (Err OutOfMemory) old new = ⊤

abbrev pub ReadsPrimary : ℕ → Registers → Registers → Result Read OrderFault → CursorOf → CursorOf → Type 0
ReadsPrimary control before after (Ok read) old new = IsDrawn control before after read old new
ReadsPrimary control before after (Err (BadOrder at)) old new = (primary_at before control (rest old) ≡ Err (rest new)) × (new.bytes ≡ old.bytes) × (at ≡ new.at)
ReadsPrimary control before after (Err OutOfMemory) old new = ⊤

-- ---- appended

-- The call read the drawing behind the type of an order, kept it and appended it; or it came to a field that is refused; or no memory was left. An `Err` leaves the registers as they were.
abbrev pub DrawsTyped : {X : Type 0} → ℕ → ℕ → ℕ → Registers → Registers → Result X OrderFault → CursorOf → CursorOf → List Read → List Read → Type 0
DrawsTyped kind size control before after (Ok _) old new reads kept = (read : Read) × IsTyped kind size control before after read old new × (kept ≡ reads ++ read ∷ [])
DrawsTyped kind size control before after (Err (BadOrder at)) old new reads kept = ReadsTyped kind size control before after (Err (BadOrder at)) old new × (after ≡ before)
DrawsTyped kind size control before after (Err OutOfMemory) old new reads kept = after ≡ before

-- the same of an order behind its control byte
abbrev pub DrawsPrimary : {X : Type 0} → ℕ → Registers → Registers → Result X OrderFault → CursorOf → CursorOf → List Read → List Read → Type 0
DrawsPrimary control before after (Ok _) old new reads kept = (read : Read) × IsDrawn control before after read old new × (kept ≡ reads ++ read ∷ [])
DrawsPrimary control before after (Err (BadOrder at)) old new reads kept = ReadsPrimary control before after (Err (BadOrder at)) old new × (after ≡ before)
DrawsPrimary control before after (Err OutOfMemory) old new reads kept = after ≡ before
