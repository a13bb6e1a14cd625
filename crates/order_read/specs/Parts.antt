-- Parts of a primary order.
use Rattle.std.specs.Prelude.{◌≡◌, ◌≤◌, ⊤, ℕ, ◌%◌, ◌==◌, Bool, ◌&&◌, ℤ, List, [], ◌∷◌, Option, Some, None, Result, Ok, Err}
use Rattle.wire_num.specs.Field.{Read, then_read, map_read}
use Rattle.wire_num.specs.Number.{little_at}
use Rattle.wire_num.specs.Cursor.{CursorOf, rest}
use Rattle.wire_num.specs.declared.short.Short.{Short}
use Rattle.order_fields.specs.declared.kind.FieldKind.{FieldKind}
use Rattle.order_fields.specs.declared.kind.FieldKind.TheVariants.{Coordinate, Number, Signed, Color}
use Rattle.order_fields.specs.OrderTable.{Row, row_of, values, FieldList, Edges, Registers, last_values}
use Rattle.order_fields.specs.OrderStream.{values_at, counted_at, bounds_at, has_bit}

-- a number of at most seven bytes, as all fields of the table have
abbrev pub IsShort : FieldKind → Type 0
IsShort Coordinate = ⊤
IsShort (Number n) = n ≤ 7
IsShort Signed = ⊤
IsShort Color = ⊤

abbrev pub AreShort : List FieldKind → Type 0
AreShort [] = ⊤
AreShort (k ∷ ks) = IsShort k × AreShort ks

-- The call read the numbers of these fields over the last ones, and gave the flags that are left for counted bytes behind them; or it came to a field that is refused.
abbrev pub ReadsNumbers : List FieldKind → ℕ → Bool → List ℤ → List ℤ → Result ℕ Short → CursorOf → CursorOf → Type 0
ReadsNumbers kinds flags delta lasts numbers (Ok left) old new =
    ((counted : Bool) (bytes : List ℕ) → values_at kinds counted flags delta lasts bytes (rest old) ≡ map_read (values numbers) (counted_at (counted && (left % 2 == 1)) bytes (rest new)))
    × (new.bytes ≡ old.bytes)
ReadsNumbers kinds flags delta lasts numbers (Err short) old new =
    ((counted : Bool) (bytes : List ℕ) → values_at kinds counted flags delta lasts bytes (rest old) ≡ Err (rest new)) × (new.bytes ≡ old.bytes) × (short.at ≡ new.at)

-- the field list of a row's order
abbrev pub list_at : Option Row → ℕ → Bool → Registers → List ℕ → Read FieldList
list_at None flags delta regs bs = Err bs
list_at (Some r) flags delta regs bs =
    map_read (λ vs. record { code = r.code; values = vs }) (values_at r.kinds r.counted flags delta (last_values regs r.code).numbers (last_values regs r.code).bytes bs)

-- the field list of a type's order
abbrev pub fields_at : ℕ → ℕ → Bool → Registers → List ℕ → Read FieldList
fields_at kind flags delta regs bs = list_at (row_of kind) flags delta regs bs

-- a field list and its bounds, behind so many flag bytes
abbrev pub list_and_bounds_at : ℕ → ℕ → ℕ → Registers → List ℕ → Read (FieldList × Option Edges)
list_and_bounds_at kind size control regs bs =
    then_read (little_at size bs) (λ flags a.
    then_read (bounds_at (has_bit control 4) (has_bit control 32) regs.bounds a) (λ bounds b.
    map_read (λ o. (o, bounds)) (fields_at kind flags (has_bit control 16) regs b)))
