-- What the calls say that read orders.
use Rattle.std.specs.Prelude.{◌≡◌, ◌≤◌, ℕ, ◌+◌, List, ◌++◌, length, take, Option, Some, None, Result, Ok, Err, Vec, ⊤}
use Rattle.px_core.specs.declared.depth.Depth.{Depth}
use Rattle.wire_num.specs.Field.{Read as Field}
use Rattle.wire_num.specs.Cursor.{CursorOf, rest}
use Rattle.order_fields.specs.OrderTable.{Registers}
use Rattle.order_fields.specs.OrderStream.{Order, Stream, order_at, orders_in, seen}
use Rattle.order_read.specs.declared.order_fault.OrderFault.{OrderFault}
use Rattle.order_read.specs.declared.order_fault.OrderFault.TheVariants.{BadOrder, OutOfMemory}
use Rattle.order_read.specs.declared.read.Read.{Read}
use Rattle.order_read.specs.Told.{told_reads, told_orders}

-- The call read what stands at the cursor, seen by view, and went past it; or it came to a field that is refused, and the cursor stands there; or no memory was left.
abbrev pub ReadsOr : {X A : Type 0} → (X → A) → (List ℕ → Field A) → Result X OrderFault → CursorOf → CursorOf → Type 0
ReadsOr view read (Ok v) old new = (read (rest old) ≡ Ok (view v, rest new)) × (new.bytes ≡ old.bytes)
ReadsOr view read (Err (BadOrder at)) old new = (read (rest old) ≡ Err (rest new)) × (new.bytes ≡ old.bytes) × (at ≡ new.at)
ReadsOr view read (Err OutOfMemory) old new = ⊤

-- the first bytes of a body
abbrev pub IsFront : List ℕ → List ℕ → Type 0
IsFront front body = take (length front) body ≡ front

-- reads were appended that tell these orders, whose ranges are those of a body that begins with the bytes
abbrev pub Appends : List ℕ → List Order → List Read → List Read → Type 0
Appends bytes os old new = (body : List ℕ) → IsFront bytes body → told_reads body new ≡ told_reads body old ++ told_orders os

-- The call read orders at the cursor and appended them; or it came to a field that is refused, and the cursor stands there; or no memory was left.
abbrev pub ReadsOnto : {X : Type 0} → (List ℕ → Field (List Order)) → Result X OrderFault → CursorOf → CursorOf → List Read → List Read → Type 0
ReadsOnto read (Ok _) old new before after =
    (os : List Order) × (read (rest old) ≡ Ok (os, rest new)) × (new.bytes ≡ old.bytes) × Appends old.bytes os before after
ReadsOnto read (Err (BadOrder at)) old new before after = (read (rest old) ≡ Err (rest new)) × (new.bytes ≡ old.bytes) × (at ≡ new.at)
ReadsOnto read (Err OutOfMemory) old new before after = ⊤

-- The call read an order, kept it and appended what it says; or it came to a field that is refused, and the cursor stands there; or no memory was left. An `Err` leaves the registers as they were.
abbrev pub ReadsOrder : {X : Type 0} → Depth → Result X OrderFault → Registers → Registers → CursorOf → CursorOf → List Read → List Read → Type 0
ReadsOrder depth (Ok _) regs kept old new before after =
    (os : List Order) × (order_at depth regs (rest old) ≡ Ok (seen os kept, rest new)) × (new.bytes ≡ old.bytes) × Appends old.bytes os before after
ReadsOrder depth (Err (BadOrder at)) regs kept old new before after = (order_at depth regs (rest old) ≡ Err (rest new)) × (new.bytes ≡ old.bytes) × (kept ≡ regs)
ReadsOrder depth (Err OutOfMemory) regs kept old new before after = kept ≡ regs

-- The call read all orders of a stream and appended what they say; or it came to a field that is refused, and the cursor stands there; or no memory was left. The registers are those after the last whole order.
abbrev pub ReadsAll : {X : Type 0} → Stream → Result X OrderFault → Registers → CursorOf → CursorOf → List Read → List Read → Type 0
ReadsAll s (Ok _) regs old new before after = (s.refused ≡ None) × (s.after ≡ regs) × Appends old.bytes s.orders before after
ReadsAll s (Err (BadOrder at)) regs old new before after = (s.refused ≡ Some (rest new)) × (s.after ≡ regs) × (new.bytes ≡ old.bytes)
ReadsAll s (Err OutOfMemory) regs old new before after = ⊤

-- these are the registers after the first orders of so many, none, some or all of them
abbrev pub AreAfterFirst : Depth → List ℕ → ℕ → Registers → Registers → Type 0
AreAfterFirst depth bytes count before after = (k : ℕ) × (k ≤ count) × ((orders_in depth bytes k before).after ≡ after)

-- the place of the field that was refused
abbrev pub IsPlace : List ℕ → Option (List ℕ) → ℕ → Type 0
IsPlace body None at = ⊥
IsPlace body (Some left) at = at + length left ≡ length body

-- The call gave the orders of a body, or refused it at its first field that breaks its rule; the registers are those after the last whole order.
abbrev pub ReadsBody : {Z : Type 0} → List ℕ → Stream → Result (Vec Read Z) OrderFault → Registers → Type 0
ReadsBody body s (Ok reads) regs = (s.refused ≡ None) × (told_reads body reads.items ≡ told_orders s.orders) × (s.after ≡ regs)
ReadsBody body s (Err (BadOrder at)) regs = IsPlace body s.refused at × (s.after ≡ regs)
ReadsBody body s (Err OutOfMemory) regs = ⊤
