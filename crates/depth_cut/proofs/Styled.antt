-- Field lists that have another value at one place.
use Rattle.std.proofs.Common.{◌≡◌, ℕ, zero, suc, ℤ, pos, List, [], ◌∷◌, set, refl, sym, subst, arith}
use Rattle.std.specs.Prelude.{⊤}
use Rattle.order_fields.specs.declared.kind.FieldKind.{FieldKind}
use Rattle.order_fields.specs.OrderTable.{FieldList, FitKinds, FitsKind, FitRow, FitsRow, IsFieldList, row_of, pat_blt, mem3_blt, values}

-- a value that the field at a place can hold
abbrev pub FitsPlace : List FieldKind → ℕ → ℤ → Type 0
FitsPlace [] n z = ⊤
FitsPlace (k ∷ ks) zero z = FitsKind k z
FitsPlace (k ∷ ks) (suc n) z = FitsPlace ks n z

pub set_fits : (ks : List FieldKind) (zs : List ℤ) (n : ℕ) (z : ℤ) → FitKinds ks zs → FitsPlace ks n z → FitKinds ks (set zs n z)
set_fits [] [] n z h g = h
set_fits [] (y ∷ zs) n z h g = absurd h
set_fits (k ∷ ks) [] n z h g = absurd h
set_fits (k ∷ ks) (y ∷ zs) zero z h g = (g, h.1)
set_fits (k ∷ ks) (y ∷ zs) (suc n) z h g = (h.0, set_fits ks zs n z h.1 g)

-- the fields of PatBlt, and of Mem3Blt, with the style of 16 bits
pub pat_fits : (f : FieldList) (xs : List ℤ) → IsFieldList f → f.code ≡ 1 → xs ≡ f.values.numbers → FitRow pat_blt (values (set xs 9 (pos 0x84)) [])
pat_fits f xs h code e =
    let fits : FitRow pat_blt f.values = subst (λ n. FitsRow (row_of n) f.values) code h in
    record {
      numbers = subst (λ zs. FitKinds pat_blt.kinds (set zs 9 (pos 0x84))) (sym e) (set_fits pat_blt.kinds f.values.numbers 9 (pos 0x84) fits.numbers (omega arith));
      bytes = refl;
    }

pub mem3_fits : (f : FieldList) (xs : List ℤ) → IsFieldList f → f.code ≡ 14 → xs ≡ f.values.numbers → FitRow mem3_blt (values (set xs 12 (pos 0x84)) [])
mem3_fits f xs h code e =
    let fits : FitRow mem3_blt f.values = subst (λ n. FitsRow (row_of n) f.values) code h in
    record {
      numbers = subst (λ zs. FitKinds mem3_blt.kinds (set zs 12 (pos 0x84))) (sym e) (set_fits mem3_blt.kinds f.values.numbers 12 (pos 0x84) fits.numbers (omega arith));
      bytes = refl;
    }
