-- An order's fields have values that their type can hold.
use Rattle.std.proofs.Common.{◌≡◌, ◌≤◌, ℕ, ℤ, length, Bool, true, false, List, ap, ◌∙◌, sym, subst, Some, None, arith}
use Rattle.std.specs.Prelude.{Option, IfSome}
use Rattle.px_core.specs.declared.depth.Depth.{Depth}
use Rattle.order_fields.specs.OrderTable.{Row, row_of, FieldList, FitRow, FitsRow, FitKinds, BytesFit, IsFieldList}
use Rattle.order_fields.specs.NamedDrawing.{drawing_of, drawing_of_values, drawing_in_row}

-- the row of an order's type
found : (o : FieldList) (kind code : ℕ) (r : Row) → kind ≡ o.code → kind ≡ code → row_of code ≡ Some r → row_of o.code ≡ Some r
found o kind code r is that row = ap row_of (sym is ∙ that) ∙ row

fits_row : (o : FieldList) (kind code : ℕ) (r : Row) → IsFieldList o → kind ≡ o.code → kind ≡ code → row_of code ≡ Some r → FitRow r o.values
fits_row o kind code r fits is that row = subst (λ (x : Option Row). FitsRow x o.values) (found o kind code r is that row) fits

pub kind_fits : (o : FieldList) (kind code : ℕ) (r : Row) (values : List ℤ) → IsFieldList o → kind ≡ o.code → kind ≡ code → row_of code ≡ Some r → values ≡ o.values.numbers → FitKinds r.kinds values
kind_fits o kind code r values fits is that row e = subst (λ (zs : List ℤ). FitKinds r.kinds zs) (sym e) (fits_row o kind code r fits is that row).numbers

pub kind_draws : (depth : Depth) (o : FieldList) (kind code : ℕ) (r : Row) (values : List ℤ) → IsFieldList o → kind ≡ o.code → kind ≡ code → row_of code ≡ Some r → values ≡ o.values.numbers
    → drawing_of_values depth r.name values o.values.bytes ≡ drawing_of depth o
kind_draws depth o kind code r values fits is that row e =
    ap (λ (zs : List ℤ). drawing_of_values depth r.name zs o.values.bytes) e ∙ ap (λ (x : Option Row). drawing_in_row depth x o.values) (sym (found o kind code r is that row))

short_by : (counted : Bool) (bytes : List ℕ) → BytesFit counted bytes → length bytes ≤ 255
short_by true bytes h = omega (arith, h)
short_by false bytes h = let e : length bytes ≡ 0 = ap (λ (bs : List ℕ). length bs) h in omega (arith, e)

some_or_none : {A : Type 0} (x : Option A) (P : Type 0) → P → IfSome x (λ _. P)
some_or_none None P p = tt
some_or_none (Some x) P p = p

-- its counted bytes are few, whatever is said of it
pub kind_short : {A : Type 0} (x : Option A) (o : FieldList) (kind code : ℕ) (r : Row) → IsFieldList o → kind ≡ o.code → kind ≡ code → row_of code ≡ Some r → IfSome x (λ _. length o.values.bytes ≤ 255)
kind_short x o kind code r fits is that row = some_or_none x (length o.values.bytes ≤ 255) (short_by r.counted o.values.bytes (fits_row o kind code r fits is that row).bytes)
