-- The orders of an update, read with registers ([MS-RDPEGDI] 2.2.2.2.1.1.2). Of all orders a cached brush alone looks another way at another depth.
use Rattle.std.specs.Prelude.{ℕ, zero, suc, ◌-◌, ◌/◌, ◌%◌, ◌==◌, nat_le, Bool, true, false, ◌&&◌, ℤ, pos, ◌+ℤ◌, List, [], ◌∷◌, ◌++◌, map, Option, Some, None, Ok, Err, if◌then◌else◌}
use Rattle.px_core.specs.declared.depth.Depth.{Depth}
use Rattle.order_fields.specs.declared.kind.FieldKind.{FieldKind}
use Rattle.order_fields.specs.declared.kind.FieldKind.TheVariants.{Coordinate, Number, Signed, Color}
use Rattle.wire_num.specs.Field.{Read, then_read, map_read, taken, given, kept}
use Rattle.wire_num.specs.Number.{little_at, big_at, little_signed_at}
use Rattle.order_fields.specs.OrderTable.{Row, row_of, Values, values, FieldList, Edges, edges, Registers, last_values, registers_after, fits_coordinate}
use Rattle.order_fields.specs.Secondary.{Cached, secondary_at, marker_at}

-- ---- fields

-- one signed byte that is added to the last value; a sum that has no two bytes is refused at that byte
abbrev pub moved_at : ℤ → List ℕ → Read ℤ
moved_at last bs = then_read (little_signed_at 1 bs) (λ d rest. given (fits_coordinate (last +ℤ d)) (last +ℤ d) rest bs)

-- the value of a field that stands there; `delta` says whether coordinates are in the delta form
abbrev pub value_at : FieldKind → Bool → ℤ → List ℕ → Read ℤ
value_at Coordinate true last bs = moved_at last bs
value_at Coordinate false last bs = little_signed_at 2 bs
value_at (Number n) delta last bs = map_read pos (little_at n bs)
value_at Signed delta last bs = little_signed_at 2 bs
value_at Color delta last bs = map_read pos (big_at 3 bs)

-- a field whose flag is clear has its last value
abbrev pub field_at : Bool → FieldKind → Bool → ℤ → List ℕ → Read ℤ
field_at true k delta last bs = value_at k delta last bs
field_at false k delta last bs = Ok (last, bs)

-- counted bytes are one field: a count byte and that many bytes
abbrev pub counted_at : Bool → List ℕ → List ℕ → Read (List ℕ)
counted_at true last bs = then_read (little_at 1 bs) (λ n rest. taken bs n rest)
counted_at false last bs = Ok (last, bs)

-- the values of an order over the last ones; the lowest flag is that of the first field
abbrev pub values_at : List FieldKind → Bool → ℕ → Bool → List ℤ → List ℕ → List ℕ → Read Values
values_at [] counted flags delta lasts bytes bs = map_read (values []) (counted_at (counted && (flags % 2 == 1)) bytes bs)
values_at (k ∷ ks) counted flags delta [] bytes bs = Ok (values [] bytes, bs)
values_at (k ∷ ks) counted flags delta (l ∷ ls) bytes bs =
    then_read (field_at (flags % 2 == 1) k delta l bs) (λ v rest.
    map_read (λ vs. values (v ∷ vs.numbers) vs.bytes) (values_at ks counted (flags / 2) delta ls bytes rest))

-- ---- bounds

-- whether the bit of a byte with that weight is set
abbrev pub has_bit : ℕ → ℕ → Bool
has_bit byte weight = (byte / weight) % 2 == 1

-- an edge that is absolute, that moved, or that stays
abbrev pub edge_at : Bool → Bool → ℤ → List ℕ → Read ℤ
edge_at true moved last bs = little_signed_at 2 bs
edge_at false true last bs = moved_at last bs
edge_at false false last bs = Ok (last, bs)

-- the four edges; the low bits of the flags say that one is absolute, the high bits that it moved, and where both stand it is absolute
abbrev pub edges_at : ℕ → Edges → List ℕ → Read Edges
edges_at flags old bs =
    then_read (edge_at (has_bit flags 1) (has_bit flags 16) old.left bs) (λ l a. then_read (edge_at (has_bit flags 2) (has_bit flags 32) old.top a) (λ t b.
    then_read (edge_at (has_bit flags 4) (has_bit flags 64) old.right b) (λ r c. map_read (edges l t r) (edge_at (has_bit flags 8) (has_bit flags 128) old.bottom c))))

-- the bounds of an order, where it has some: the last ones, or a byte of flags and edges
abbrev pub bounds_at : Bool → Bool → Edges → List ℕ → Read (Option Edges)
bounds_at false same old bs = Ok (None, bs)
bounds_at true true old bs = Ok (Some old, bs)
bounds_at true false old bs = then_read (little_at 1 bs) (λ flags rest. map_read Some (edges_at flags old rest))

-- ---- an order

-- what an order says: a drawing with its complete field list and its bounds, or what a cache order or a marker says
pub data Order : Type 0 where
  Primary : FieldList → Option Edges → Order
  Other : Cached → Order

-- the orders that were read, and the registers after them
pub record Seen : Type 0 where
  pub orders : List Order
  pub after : Registers

abbrev pub seen : List Order → Registers → Seen
seen orders after = record { orders = orders; after = after }

-- a primary order, and the registers after it
abbrev pub seen_primary : Registers → FieldList → Option Edges → Seen
seen_primary regs o bounds = seen (Primary o bounds ∷ []) (registers_after regs o bounds)

-- the type stands there where it changed
abbrev pub type_at : Bool → ℕ → List ℕ → Read ℕ
type_at true last bs = little_at 1 bs
type_at false last bs = Ok (last, bs)

-- the flag bytes, the bounds, the fields; the two top bits of the control byte count the omitted flag bytes
abbrev pub body_at : Row → Registers → ℕ → List ℕ → Read Seen
body_at r regs control bs =
    then_read (little_at (r.flags - control / 64) bs) (λ flags a.
    then_read (bounds_at (has_bit control 4) (has_bit control 32) regs.bounds a) (λ bounds b.
    map_read (λ vs. seen_primary regs (record { code = r.code; values = vs }) bounds)
    (values_at r.kinds r.counted flags (has_bit control 16) (last_values regs r.code).numbers (last_values regs r.code).bytes b)))

-- another type is refused at its byte, and more omitted flag bytes than the type has at the control byte
abbrev pub typed_at : Option Row → Registers → ℕ → List ℕ → List ℕ → List ℕ → Read Seen
typed_at None regs control whole typed bs = Err typed
typed_at (Some r) regs control whole typed bs = kept (nat_le (control / 64) r.flags) (body_at r regs control bs) whole

-- a primary order after its control byte
abbrev pub primary_at : Registers → ℕ → List ℕ → Read Seen
primary_at regs control bs = then_read (type_at (has_bit control 8) regs.last bs) (λ t a. typed_at (row_of t) regs control (control ∷ bs) bs a)

-- how an order begins
pub data Form : Type 0 where
  PrimaryForm : Form
  SecondaryForm : Form
  MarkerForm : Form
  NoForm : Form

-- a control byte: the standard bit without the secondary one is a primary order; 03 a secondary one; 36 a frame marker
abbrev pub form_of : ℕ → Form
form_of control = if control % 4 == 1 then PrimaryForm else (if control == 3 then SecondaryForm else (if control == 54 then MarkerForm else NoForm))

abbrev pub seen_others : Registers → List Cached → Seen
seen_others regs os = seen (map Other os) regs

abbrev pub order_by : Depth → Form → Registers → ℕ → List ℕ → Read Seen
order_by depth PrimaryForm regs control bs = primary_at regs control bs
order_by depth SecondaryForm regs control bs = map_read (seen_others regs) (secondary_at depth bs)
order_by depth MarkerForm regs control bs = map_read (seen_others regs) (marker_at bs)
order_by depth NoForm regs control bs = Err (control ∷ bs)

-- the order at the front of bytes
abbrev pub order_at : Depth → Registers → List ℕ → Read Seen
order_at depth regs [] = Err []
order_at depth regs (control ∷ bs) = order_by depth (form_of control) regs control bs

-- ---- the orders of a body

-- the whole orders, the registers after the last of them, and the bytes from the field that was refused on, where one was
pub record Stream : Type 0 where
  pub orders : List Order
  pub after : Registers
  pub refused : Option (List ℕ)

-- no order may follow: bytes that are left are refused at the first of them
abbrev pub stream_end : Registers → List ℕ → Stream
stream_end regs [] = record { orders = []; after = regs; refused = None }
stream_end regs (b ∷ bs) = record { orders = []; after = regs; refused = Some (b ∷ bs) }

abbrev pub with_orders : List Order → Stream → Stream
with_orders os s = record s { orders = os ++ s.orders }

abbrev pub then_orders : Read Seen → Registers → (List ℕ → Registers → Stream) → Stream
then_orders (Ok v) regs more = with_orders v.0.orders (more v.1 v.0.after)
then_orders (Err left) regs more = record { orders = []; after = regs; refused = Some left }

-- so many orders, which fill the bytes
abbrev pub orders_in : Depth → List ℕ → ℕ → Registers → Stream
orders_in depth bs zero regs = stream_end regs bs
orders_in depth bs (suc n) regs = then_orders (order_at depth regs bs) regs (λ rest after. orders_in depth rest n after)
