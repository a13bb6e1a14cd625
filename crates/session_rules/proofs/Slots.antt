-- Slots after one was filled.
use Rattle.std.proofs.Common.{◌≡◌, ◌≢◌, ℕ, zero, suc, ◌<◌, List, [], ◌∷◌, refl, ap, Some, length, arith}
use Rattle.std.specs.Prelude.{slice_get, slice_set}
use Rattle.draw_ops.specs.Slots.{Slots, lookup, filled_slot, flattened}

slice_get-set_other : {A : Type 0} (xs : List A) (i j : ℕ) (x : A) → j ≢ i → slice_get (slice_set xs i x) j ≡ slice_get xs j
slice_get-set_other [] i j x h = refl
slice_get-set_other (y ∷ ys) zero zero x h = absurd (h refl)
slice_get-set_other (y ∷ ys) zero (suc j) x h = refl
slice_get-set_other (y ∷ ys) (suc i) zero x h = refl
slice_get-set_other (y ∷ ys) (suc i) (suc j) x h = slice_get-set_other ys i j x (λ e. h (ap suc e))

slice_get-set_same : {A : Type 0} (xs : List A) (i : ℕ) (x : A) → i < length xs → slice_get (slice_set xs i x) i ≡ Some x
slice_get-set_same [] i x h = absurd (omega (arith, h))
slice_get-set_same (y ∷ ys) zero x h = refl
slice_get-set_same (y ∷ ys) (suc i) x h = slice_get-set_same ys i x (omega (arith, h))

-- another slot stays
pub lookup-other : {A : Type 0} (slots : Slots A) (i j : ℕ) (x : A) → j ≢ i → lookup j (filled_slot i x slots) ≡ lookup j slots
lookup-other slots i j x h = ap flattened (slice_get-set_other slots i j (Some x) h)

-- a slot that was filled
pub lookup-filled : {A : Type 0} (slots : Slots A) (i : ℕ) (x : A) → i < length slots → lookup i (filled_slot i x slots) ≡ Some x
lookup-filled slots i x h = ap flattened (slice_get-set_same slots i (Some x) h)

pub length-filled : {A : Type 0} (slots : Slots A) (i : ℕ) (x : A) → length (filled_slot i x slots) ≡ length slots
length-filled slots i x = set_length slots i (Some x)
  where
    set_length : {B : Type 0} (xs : List B) (k : ℕ) (y : B) → length (slice_set xs k y) ≡ length xs
    set_length [] k y = refl
    set_length (z ∷ zs) zero y = refl
    set_length (z ∷ zs) (suc k) y = ap suc (set_length zs k y)
