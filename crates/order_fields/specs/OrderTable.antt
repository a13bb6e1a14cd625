-- The eight primary orders as data: a row each ([MS-RDPEGDI] 2.2.2.2.1.1.2).
use Rattle.std.specs.Prelude.{◌≡◌, ◌<◌, ◌^◌, ◌&&◌, ℕ, ◌==◌, Bool, true, false, ℤ, pos, negsuc, int_le, List, [], ◌∷◌, ◌++◌, length, map, replicate, Option, Some, None, ⊤}
use Rattle.order_fields.specs.declared.kind.FieldKind.{FieldKind}
use Rattle.order_fields.specs.declared.kind.FieldKind.TheVariants.{Coordinate, Number, Signed, Color}

-- the orders by the standard's names
pub data OrderName : Type 0 where
  DstBlt : OrderName
  PatBlt : OrderName
  ScrBlt : OrderName
  OpaqueRect : OrderName
  SaveBitmap : OrderName
  MemBlt : OrderName
  Mem3Blt : OrderName
  GlyphIndex : OrderName

-- an order type: its name, its code, how many flag bytes it has, its fields in their order, and whether a field of counted bytes stands last
pub record Row : Type 0 where
  pub name : OrderName
  pub code : ℕ
  pub flags : ℕ
  pub kinds : List FieldKind
  pub counted : Bool

-- left, top, width, height
abbrev pub box_kinds : List FieldKind
box_kinds = Coordinate ∷ Coordinate ∷ Coordinate ∷ Coordinate ∷ []

-- brush origin x, origin y, style, hatch, extra
abbrev pub brush_kinds : List FieldKind
brush_kinds = Number 1 ∷ Number 1 ∷ Number 1 ∷ Number 1 ∷ Number 7 ∷ []

abbrev pub row : OrderName → ℕ → ℕ → List FieldKind → Bool → Row
row name code flags kinds counted = record { name = name; code = code; flags = flags; kinds = kinds; counted = counted }

-- bRop ([MS-RDPEGDI] 2.2.2.2.1.1.2.1)
abbrev pub dst_blt : Row
dst_blt = row DstBlt 0 1 (box_kinds ++ Number 1 ∷ []) false

-- bRop, backColor, foreColor, the brush (2.2.2.2.1.1.2.3)
abbrev pub pat_blt : Row
pat_blt = row PatBlt 1 2 (box_kinds ++ (Number 1 ∷ Color ∷ Color ∷ brush_kinds)) false

-- bRop, nXSrc, nYSrc (2.2.2.2.1.1.2.7)
abbrev pub scr_blt : Row
scr_blt = row ScrBlt 2 1 (box_kinds ++ (Number 1 ∷ Coordinate ∷ Coordinate ∷ [])) false

-- red, green, blue (2.2.2.2.1.1.2.5)
abbrev pub opaque_rect : Row
opaque_rect = row OpaqueRect 10 1 (box_kinds ++ (Number 1 ∷ Number 1 ∷ Number 1 ∷ [])) false

-- savedBitmapPosition, left, top, right, bottom, operation (2.2.2.2.1.1.2.12)
abbrev pub save_bitmap : Row
save_bitmap = row SaveBitmap 11 1 (Number 4 ∷ (box_kinds ++ Number 1 ∷ [])) false

-- cacheId, the box, bRop, nXSrc, nYSrc, cacheIndex (2.2.2.2.1.1.2.9)
abbrev pub mem_blt : Row
mem_blt = row MemBlt 13 2 (Number 2 ∷ (box_kinds ++ (Number 1 ∷ Coordinate ∷ Coordinate ∷ Number 2 ∷ []))) false

-- cacheId, the box, bRop, nXSrc, nYSrc, backColor, foreColor, the brush, cacheIndex (2.2.2.2.1.1.2.10)
abbrev pub mem3_blt : Row
mem3_blt = row Mem3Blt 14 3 (Number 2 ∷ (box_kinds ++ (Number 1 ∷ Coordinate ∷ Coordinate ∷ Color ∷ Color ∷ (brush_kinds ++ Number 2 ∷ [])))) false

-- cacheId, flAccel, ulCharInc, fOpRedundant, backColor, foreColor, the edges bk and op, the brush, x, y, and counted bytes (2.2.2.2.1.1.2.13)
abbrev pub glyph_index : Row
glyph_index = row GlyphIndex 27 3 (Number 1 ∷ Number 1 ∷ Number 1 ∷ Number 1 ∷ Color ∷ Color ∷ (replicate 8 Signed ++ (brush_kinds ++ (Signed ∷ Signed ∷ [])))) true

abbrev pub table : List Row
table = dst_blt ∷ pat_blt ∷ scr_blt ∷ opaque_rect ∷ save_bitmap ∷ mem_blt ∷ mem3_blt ∷ glyph_index ∷ []

abbrev pub chosen_row : Bool → Row → Option Row → Option Row
chosen_row true r later = Some r
chosen_row false r later = later

abbrev pub row_in : List Row → ℕ → Option Row
row_in [] code = None
row_in (r ∷ rs) code = chosen_row (r.code == code) r (row_in rs code)

-- the row of an order type
abbrev pub row_of : ℕ → Option Row
row_of code = row_in table code

-- ---- the fields of an order

-- the values of the fields in their order, and the counted bytes
pub record Values : Type 0 where
  pub numbers : List ℤ
  pub bytes : List ℕ

-- a complete field list: the order's type, and all its values
pub record FieldList : Type 0 where
  pub code : ℕ
  pub values : Values

abbrev pub values : List ℤ → List ℕ → Values
values numbers bytes = record { numbers = numbers; bytes = bytes }

abbrev pub field_list : ℕ → List ℤ → List ℕ → FieldList
field_list code numbers bytes = record { code = code; values = values numbers bytes }

-- whether a signed number has two bytes
abbrev pub fits_coordinate : ℤ → Bool
fits_coordinate z = int_le (negsuc 32767) z && int_le z (pos 32767)

abbrev pub IsBelow : ℕ → ℤ → Type 0
IsBelow n (pos m) = m < n
IsBelow n (negsuc m) = ⊥

-- a value that a field can hold
abbrev pub FitsKind : FieldKind → ℤ → Type 0
FitsKind Coordinate z = fits_coordinate z ≡ true
FitsKind (Number n) z = IsBelow (256 ^ n) z
FitsKind Signed z = fits_coordinate z ≡ true
FitsKind Color z = IsBelow 16777216 z

-- a value for each field, which it can hold
abbrev pub FitKinds : List FieldKind → List ℤ → Type 0
FitKinds [] [] = ⊤
FitKinds [] (z ∷ zs) = ⊥
FitKinds (k ∷ ks) [] = ⊥
FitKinds (k ∷ ks) (z ∷ zs) = FitsKind k z × FitKinds ks zs

-- at most 255 counted bytes, and none where the type has no such field
abbrev pub BytesFit : Bool → List ℕ → Type 0
BytesFit true bytes = length bytes < 256
BytesFit false bytes = bytes ≡ []

-- values that an order type can hold
pub record FitRow (r : Row) (vs : Values) : Type 0 where
  pub numbers : FitKinds r.kinds vs.numbers
  pub bytes : BytesFit r.counted vs.bytes

abbrev pub FitsRow : Option Row → Values → Type 0
FitsRow None vs = ⊥
FitsRow (Some r) vs = FitRow r vs

-- a type of the table, with values that it can hold
abbrev pub IsFieldList : FieldList → Type 0
IsFieldList o = FitsRow (row_of o.code) o.values

-- ---- registers

-- the edges of bounds, all inclusive
pub record Edges : Type 0 where
  pub left : ℤ
  pub top : ℤ
  pub right : ℤ
  pub bottom : ℤ

abbrev pub edges : ℤ → ℤ → ℤ → ℤ → Edges
edges l t r b = record { left = l; top = t; right = r; bottom = b }

-- the last type, the last fields of each type in the table's order, and the last bounds, which all types share
pub record Registers : Type 0 where
  pub last : ℕ
  pub lasts : List FieldList
  pub bounds : Edges

-- all fields of a type zero
abbrev pub zero_fields : Row → FieldList
zero_fields r = field_list r.code (map (λ k. pos 0) r.kinds) []

-- at first all fields and bounds are zero, and the last type is PatBlt
abbrev pub first_registers : Registers
first_registers = record { last = 1; lasts = map zero_fields table; bounds = edges (pos 0) (pos 0) (pos 0) (pos 0) }

abbrev pub chosen_values : Bool → Values → Values → Values
chosen_values true vs later = vs
chosen_values false vs later = later

abbrev pub values_in : List FieldList → ℕ → Values
values_in [] code = values [] []
values_in (o ∷ os) code = chosen_values (o.code == code) o.values (values_in os code)

-- the last values of a type
abbrev pub last_values : Registers → ℕ → Values
last_values regs code = values_in regs.lasts code

abbrev pub chosen_fields : Bool → FieldList → FieldList → FieldList
chosen_fields true new old = new
chosen_fields false new old = old

-- the last fields of each type, after an order
abbrev pub lasts_after : FieldList → List FieldList → List FieldList
lasts_after new [] = []
lasts_after new (old ∷ os) = chosen_fields (old.code == new.code) new old ∷ lasts_after new os

abbrev pub bounds_after : Option Edges → Edges → Edges
bounds_after None old = old
bounds_after (Some new) old = new

-- the registers after an order and the bounds that it has
abbrev pub registers_after : Registers → FieldList → Option Edges → Registers
registers_after regs o bounds = record { last = o.code; lasts = lasts_after o regs.lasts; bounds = bounds_after bounds regs.bounds }

-- bounds whose edges have two bytes each
pub record FitEdges (e : Edges) : Type 0 where
  pub left : fits_coordinate e.left ≡ true
  pub top : fits_coordinate e.top ≡ true
  pub right : fits_coordinate e.right ≡ true
  pub bottom : fits_coordinate e.bottom ≡ true

abbrev pub FitBounds : Option Edges → Type 0
FitBounds None = ⊤
FitBounds (Some e) = FitEdges e

-- the last fields of each type of a table, which fit it
abbrev pub AreLasts : List Row → List FieldList → Type 0
AreLasts [] [] = ⊤
AreLasts [] (o ∷ os) = ⊥
AreLasts (r ∷ rs) [] = ⊥
AreLasts (r ∷ rs) (o ∷ os) = (o.code ≡ r.code) × FitRow r o.values × AreLasts rs os

-- registers that orders can leave
pub record AreRegisters (regs : Registers) : Type 0 where
  pub lasts : AreLasts table regs.lasts
  pub bounds : FitEdges regs.bounds
