-- The one form in which an order is written: only what differs from the registers, and as briefly as it can be ([MS-RDPEGDI] 2.2.2.2.1.1.2).
use Rattle.std.specs.Prelude.{◌≡◌, ℕ, ◌+◌, ◌-◌, ◌*◌, ◌==◌, nat_lt, Bool, true, false, ◌&&◌, ◌||◌, not, ℤ, pos, negsuc, ◌+ℤ◌, ◌-ℤ◌, int_le, List, [], ◌∷◌, ◌++◌, length, Option, Some, None, if◌then◌else◌}
use Rattle.std.specs.Ordering.{int_eq}
use Rattle.px_core.specs.declared.rectangle.Rect.{Rect}
use Rattle.px_core.specs.Picture.{nat_of}
use Rattle.order_fields.specs.declared.change.Change.{Change}
use Rattle.order_fields.specs.declared.change.Change.TheVariants.{Same, Moved, Anew}
use Rattle.order_fields.specs.declared.kind.FieldKind.{FieldKind}
use Rattle.order_fields.specs.declared.kind.FieldKind.TheVariants.{Coordinate, Number, Signed, Color}
use Rattle.byteorder.specs.Endian.{little_bytes, big_bytes}
use Rattle.wire_num.specs.Number.{little_signed}
use Rattle.order_fields.specs.OrderTable.{Row, row_of, Values, FieldList, Edges, edges, Registers, last_values}

-- a field of an order: how it stands in bytes, its last value, and its new one
pub record Field : Type 0 where
  pub kind : FieldKind
  pub last : ℤ
  pub value : ℤ

abbrev pub fields_of : List FieldKind → List ℤ → List ℤ → List Field
fields_of [] ls zs = []
fields_of (k ∷ ks) [] zs = []
fields_of (k ∷ ks) (l ∷ ls) [] = []
fields_of (k ∷ ks) (l ∷ ls) (z ∷ zs) = record { kind = k; last = l; value = z } ∷ fields_of ks ls zs

-- a field stands there exactly where its value differs from the last one
abbrev pub is_unchanged : Field → Bool
is_unchanged f = int_eq f.last f.value

-- ---- the delta form

-- a difference of -128 to 127
abbrev pub is_byte : ℤ → Bool
is_byte d = int_le (negsuc 127) d && int_le d (pos 127)

abbrev pub is_coordinate : FieldKind → Bool
is_coordinate Coordinate = true
is_coordinate (Number n) = false
is_coordinate Signed = false
is_coordinate Color = false

abbrev pub is_present_coordinate : Field → Bool
is_present_coordinate f = is_coordinate f.kind && not (is_unchanged f)

-- no coordinate that differs by more than a signed byte
abbrev pub is_near : Field → Bool
is_near f = not (is_coordinate f.kind) || is_byte (f.value -ℤ f.last)

abbrev pub any_coordinate : List Field → Bool
any_coordinate [] = false
any_coordinate (f ∷ fs) = is_present_coordinate f || any_coordinate fs

abbrev pub all_near : List Field → Bool
all_near [] = true
all_near (f ∷ fs) = is_near f && all_near fs

-- the delta form is taken exactly where a coordinate is present and every present one differs by -128 to 127
abbrev pub takes_deltas : List Field → Bool
takes_deltas fs = any_coordinate fs && all_near fs

-- ---- fields

-- the flag of a field, or of the counted bytes
abbrev pub flag : Bool → ℕ
flag true = 0
flag false = 1

abbrev pub same_list : List ℕ → List ℕ → Bool
same_list [] [] = true
same_list [] (y ∷ ys) = false
same_list (x ∷ xs) [] = false
same_list (x ∷ xs) (y ∷ ys) = (x == y) && same_list xs ys

-- the counted bytes stand there exactly where the type has them and they differ from the last ones
abbrev pub keeps_bytes : Bool → List ℕ → List ℕ → Bool
keeps_bytes counted old new = not counted || same_list old new

-- the flags of the fields, the first the lowest, and above them that of the counted bytes
abbrev pub flags_of : List Field → Bool → ℕ
flags_of [] keeps = flag keeps
flags_of (f ∷ fs) keeps = flag (is_unchanged f) + 2 * flags_of fs keeps

abbrev pub value_bytes : FieldKind → Bool → ℤ → ℤ → List ℕ
value_bytes Coordinate true last z = little_signed 1 (z -ℤ last)
value_bytes Coordinate false last z = little_signed 2 z
value_bytes (Number n) delta last z = little_bytes n (nat_of z)
value_bytes Signed delta last z = little_signed 2 z
value_bytes Color delta last z = big_bytes 3 (nat_of z)

abbrev pub unless_same : Bool → List ℕ → List ℕ
unless_same true bytes = []
unless_same false bytes = bytes

abbrev pub field_bytes : Bool → Field → List ℕ
field_bytes delta f = unless_same (is_unchanged f) (value_bytes f.kind delta f.last f.value)

-- a count byte and the bytes
abbrev pub counted_bytes : Bool → List ℕ → List ℕ
counted_bytes keeps bytes = unless_same keeps (length bytes ∷ bytes)

-- the present fields, and behind them the counted bytes
abbrev pub present_bytes : List Field → Bool → Bool → List ℕ → List ℕ
present_bytes [] delta keeps bytes = counted_bytes keeps bytes
present_bytes (f ∷ fs) delta keeps bytes = field_bytes delta f ++ present_bytes fs delta keeps bytes

-- how many bytes the flags have without their zero bytes at the end; a type has at most three
abbrev pub shown : ℕ → ℕ
shown flags = if flags == 0 then 0 else (if nat_lt flags 256 then 1 else (if nat_lt flags 65536 then 2 else 3))

-- ---- bounds

-- an edge that is equal is omitted, one that differs by -128 to 127 is one byte, and another one two bytes
abbrev pub change_by : Bool → Bool → Change
change_by true near = Same
change_by false true = Moved
change_by false false = Anew

abbrev pub change : ℤ → ℤ → Change
change l z = change_by (int_eq l z) (is_byte (z -ℤ l))

abbrev pub is_anew : Change → ℕ
is_anew Same = 0
is_anew Moved = 0
is_anew Anew = 1

abbrev pub is_moved : Change → ℕ
is_moved Same = 0
is_moved Moved = 1
is_moved Anew = 0

abbrev pub edge_bytes : Change → ℤ → ℤ → List ℕ
edge_bytes Same l z = []
edge_bytes Moved l z = little_signed 1 (z -ℤ l)
edge_bytes Anew l z = little_signed 2 z

abbrev pub edge_flags : Change → Change → Change → Change → ℕ
edge_flags l t r b = is_anew l + 2 * is_anew t + 4 * is_anew r + 8 * is_anew b + 16 * is_moved l + 32 * is_moved t + 64 * is_moved r + 128 * is_moved b

abbrev pub flags_between : Edges → Edges → ℕ
flags_between old new = edge_flags (change old.left new.left) (change old.top new.top) (change old.right new.right) (change old.bottom new.bottom)

-- the right edge and the bottom one, and before them the top one
abbrev pub far_edges : Edges → Edges → List ℕ
far_edges old new = edge_bytes (change old.right new.right) old.right new.right ++ edge_bytes (change old.bottom new.bottom) old.bottom new.bottom

abbrev pub later_edges : Edges → Edges → List ℕ
later_edges old new = edge_bytes (change old.top new.top) old.top new.top ++ far_edges old new

abbrev pub edges_bytes : Edges → Edges → List ℕ
edges_bytes old new = edge_bytes (change old.left new.left) old.left new.left ++ later_edges old new

abbrev pub same_edges : Edges → Edges → Bool
same_edges a b = (int_eq a.left b.left && int_eq a.top b.top) && (int_eq a.right b.right && int_eq a.bottom b.bottom)

-- the zero bounds bit is set exactly where all four edges are equal and the viewer confirmed it
abbrev pub keeps_bounds : Bool → Edges → Option Edges → Bool
keeps_bounds confirmed old None = false
keeps_bounds confirmed old (Some new) = confirmed && same_edges old new

-- a byte of flags, and the edges that differ
abbrev pub bounds_bytes : Bool → Edges → Option Edges → List ℕ
bounds_bytes keeps old None = []
bounds_bytes true old (Some new) = []
bounds_bytes false old (Some new) = flags_between old new ∷ edges_bytes old new

abbrev pub has_bounds : Option Edges → Bool
has_bounds None = false
has_bounds (Some e) = true

-- the edges of a rectangle, inclusive
abbrev pub edges_of : Rect → Edges
edges_of r = edges r.x r.y ((r.x +ℤ pos r.w) -ℤ pos 1) ((r.y +ℤ pos r.h) -ℤ pos 1)

abbrev pub edges_of_optional : Option Rect → Option Edges
edges_of_optional None = None
edges_of_optional (Some r) = Some (edges_of r)

-- ---- an order

abbrev pub bit : Bool → ℕ
bit true = 1
bit false = 0

-- the standard bit, the bits for bounds, a changed type, the delta form and the last bounds, and how many flag bytes are omitted
abbrev pub control_byte : Bool → Bool → Bool → Bool → ℕ → ℕ
control_byte bounded typed delta keeps omitted = 1 + 4 * bit bounded + 8 * bit typed + 16 * bit delta + 32 * bit keeps + 64 * omitted

-- the type stands there exactly where it changed
abbrev pub type_bytes : Bool → ℕ → List ℕ
type_bytes true code = code ∷ []
type_bytes false code = []

-- the type, the flag bytes, the bounds, the fields
abbrev pub tail_bytes : Row → Bool → Bool → Bool → List Field → Bool → Edges → Option Edges → List ℕ → List ℕ
tail_bytes r typed delta keeps_edges fs keeps old bounds bytes =
    type_bytes typed r.code ++ (little_bytes (shown (flags_of fs keeps)) (flags_of fs keeps) ++ (bounds_bytes keeps_edges old bounds ++ present_bytes fs delta keeps bytes))

-- the fields of an order against the registers
abbrev pub fields_in : Row → Registers → Values → List Field
fields_in r regs vs = fields_of r.kinds (last_values regs r.code).numbers vs.numbers

abbrev pub keeps_bytes_in : Row → Registers → Values → Bool
keeps_bytes_in r regs vs = keeps_bytes r.counted (last_values regs r.code).bytes vs.bytes

abbrev pub is_typed : Row → Registers → Bool
is_typed r regs = not (regs.last == r.code)

-- all trailing zero flag bytes are omitted
abbrev pub omitted_in : Row → Registers → Values → ℕ
omitted_in r regs vs = r.flags - shown (flags_of (fields_in r regs vs) (keeps_bytes_in r regs vs))

abbrev pub row_bytes : Row → Registers → Bool → Values → Option Edges → List ℕ
row_bytes r regs confirmed vs bounds =
    control_byte (has_bounds bounds) (is_typed r regs) (takes_deltas (fields_in r regs vs)) (keeps_bounds confirmed regs.bounds bounds) (omitted_in r regs vs)
    ∷ tail_bytes r (is_typed r regs) (takes_deltas (fields_in r regs vs)) (keeps_bounds confirmed regs.bounds bounds) (fields_in r regs vs) (keeps_bytes_in r regs vs) regs.bounds bounds vs.bytes

abbrev pub bytes_by_row : Option Row → Registers → Bool → Values → Option Edges → List ℕ
bytes_by_row None regs confirmed vs bounds = []
bytes_by_row (Some r) regs confirmed vs bounds = row_bytes r regs confirmed vs bounds

-- the bytes of an order against the registers; `confirmed` says whether the viewer confirmed zero bounds deltas
abbrev pub order_bytes : Registers → Bool → FieldList → Option Edges → List ℕ
order_bytes regs confirmed o bounds = bytes_by_row (row_of o.code) regs confirmed o.values bounds

-- an order's bytes that say only what differs from the registers
abbrev pub EncodesOnlyChanges : Registers → Bool → FieldList → Option Edges → List ℕ → Type 0
EncodesOnlyChanges regs confirmed o bounds bytes = bytes ≡ order_bytes regs confirmed o bounds
