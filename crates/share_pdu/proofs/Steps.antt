-- Steps of reading that are refused.
use Rattle.std.proofs.Common.{◌≡◌, ◌⊎◌, inl, inr, ℕ, List, refl, ap}
use Rattle.std.specs.Prelude.{Ok, Err}
use Rattle.wire_num.specs.Field.{Read, then_read}

pub then_err : {A B : Type 0} (r : Read A) (f : A → List ℕ → Read B) (left : List ℕ) → then_read r f ≡ Err left
    → (r ≡ Err left) ⊎ ((v : A × List ℕ) × (r ≡ Ok v) × (f v.0 v.1 ≡ Err left))
then_err (Ok v) f left e = inr (v, refl, e)
then_err (Err l) f left e = inl (let h : l ≡ left = cc in ap Err h)
