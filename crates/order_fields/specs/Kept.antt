-- What the code's registers and fields stand for.
use Rattle.std.specs.Prelude.{◌≡◌, ⊤, ◌≤◌, ℕ, Bool, false, List, [], ◌∷◌, Option, Some, None, Vec, take}
use Rattle.order_fields.specs.declared.bounds.Bounds.{Bounds}
use Rattle.order_fields.specs.declared.kind.FieldKind.{FieldKind}
use Rattle.order_fields.specs.declared.kind.FieldKind.TheVariants.{Coordinate, Number, Signed, Color}
use Rattle.order_fields.specs.declared.lasts.Lasts.{Lasts}
use Rattle.order_fields.specs.declared.table.Layout.{Layout}
use Rattle.order_fields.specs.OrderTable.{Row, FieldList, field_list, Edges, edges, Registers}

-- bytes that may be missing, which are none then
abbrev pub optional_bytes : {Z : Type 0} → Option (Vec ℕ Z) → List ℕ
optional_bytes None = []
optional_bytes (Some v) = v.items

-- the last fields of each type, in the table's order
abbrev pub lasts_of : Lasts → List FieldList
lasts_of r =
    field_list 0 r.dst_blt [] ∷ field_list 1 r.pat_blt [] ∷ field_list 2 r.scr_blt [] ∷ field_list 10 r.opaque_rect [] ∷ field_list 11 r.save_bitmap []
    ∷ field_list 13 r.mem_blt [] ∷ field_list 14 r.mem3_blt [] ∷ field_list 27 r.glyph_index (take r.glyph_count r.glyph_bytes) ∷ []

abbrev pub edges_in : Bounds → Edges
edges_in b = edges b.left b.top b.right b.bottom

abbrev pub registers_of : ℕ → Lasts → Bounds → Registers
registers_of last lasts bounds = record { last = last; lasts = lasts_of lasts; bounds = edges_in bounds }

-- ---- what a row says, where there is one

abbrev pub row_kinds : Option Row → List FieldKind
row_kinds None = []
row_kinds (Some r) = r.kinds

abbrev pub row_flags : Option Row → ℕ
row_flags None = 0
row_flags (Some r) = r.flags

abbrev pub is_row_counted : Option Row → Bool
is_row_counted None = false
is_row_counted (Some r) = r.counted

-- the code's layout of a row
pub record IsLayoutOf (found : Option Row) (layout : Layout) : Type 0 where
  pub kinds : layout.kinds.now ≡ row_kinds found
  pub flags : layout.flag_bytes ≡ row_flags found
  pub counted : layout.counted ≡ is_row_counted found

-- a number of at most eight bytes
abbrev pub IsSized : FieldKind → Type 0
IsSized Coordinate = ⊤
IsSized (Number n) = n ≤ 8
IsSized Signed = ⊤
IsSized Color = ⊤

abbrev pub AreSized : List FieldKind → Type 0
AreSized [] = ⊤
AreSized (k ∷ ks) = IsSized k × AreSized ks

abbrev pub optional_edges : Option Bounds → Option Edges
optional_edges None = None
optional_edges (Some b) = Some (edges_in b)
