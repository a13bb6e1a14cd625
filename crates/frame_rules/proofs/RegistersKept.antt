-- Registers are registers after any order, with or without bounds.
use Rattle.std.proofs.Common.{◌≡◌, ℕ, List, [], ◌∷◌, refl, sym, ◌∙◌, subst, arith, Bool, true, false}
use Rattle.std.specs.Prelude.{⊤, ◌==◌, Some, None, Option}
use Rattle.std.proofs.lemmas.Bool.Decides.{nat_tests}
use Rattle.order_fields.specs.OrderTable.{Row, row_of, table, FieldList, Registers, Edges, FitRow, FitsRow, IsFieldList, FitBounds, AreLasts, AreRegisters, FitEdges, chosen_fields, lasts_after, bounds_after, registers_after}

-- the values fit each row that has the order's code
abbrev FitItsRows : FieldList → List Row → Type 0
FitItsRows o [] = ⊤
FitItsRows o (r ∷ rs) = (r.code ≡ o.code → FitRow r o.values) × FitItsRows o rs

row_fits : (o : FieldList) (code : ℕ) → IsFieldList o → code ≡ o.code → FitsRow (row_of code) o.values
row_fits o code fits e = subst (λ c. FitsRow (row_of c) o.values) (sym e) fits

table_fits : (o : FieldList) → IsFieldList o → FitItsRows o table
table_fits o fits = (row_fits o 0 fits, (row_fits o 1 fits, (row_fits o 2 fits, (row_fits o 10 fits, (row_fits o 11 fits, (row_fits o 13 fits, (row_fits o 14 fits, (row_fits o 27 fits, tt))))))))

last_kept : (b : Bool) (r : Row) (old new : FieldList) → (old.code == new.code) ≡ b → old.code ≡ r.code → FitRow r old.values → (r.code ≡ new.code → FitRow r new.values)
    → ((chosen_fields b new old).code ≡ r.code) × FitRow r (chosen_fields b new old).values
last_kept true r old new e same fits f = let is : old.code ≡ new.code = grind (arith, nat_tests, e) in (sym is ∙ same, f (sym same ∙ is))
last_kept false r old new e same fits f = (same, fits)

lasts_kept : (rs : List Row) (os : List FieldList) (new : FieldList) → FitItsRows new rs → AreLasts rs os → AreLasts rs (lasts_after new os)
lasts_kept [] [] new f h = h
lasts_kept [] (o ∷ os) new f h = absurd h
lasts_kept (r ∷ rs) [] new f h = absurd h
lasts_kept (r ∷ rs) (o ∷ os) new f h = let k = last_kept (o.code == new.code) r o new refl h.0 h.1 f.0 in (k.0, k.1, lasts_kept rs os new f.1 h.2)

bounds_kept : (bounds : Option Edges) (old : Edges) → FitBounds bounds → FitEdges old → FitEdges (bounds_after bounds old)
bounds_kept None old fits are = are
bounds_kept (Some new) old fits are = fits

pub registers_kept : (regs : Registers) (o : FieldList) (bounds : Option Edges) → AreRegisters regs → IsFieldList o → FitBounds bounds → AreRegisters (registers_after regs o bounds)
registers_kept regs o bounds are fits edges = record { lasts = lasts_kept table regs.lasts o (table_fits o fits) are.lasts; bounds = bounds_kept bounds regs.bounds edges are.bounds }
