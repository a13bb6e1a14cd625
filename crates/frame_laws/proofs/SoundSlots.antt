-- What holds of whatever slots hold still does when one more is filled with what it holds of.
use Rattle.std.proofs.Common.{◌≡◌, ℕ, zero, suc, [], ◌∷◌, Some, subst}
use Rattle.std.specs.Prelude.{Option}
use Rattle.draw_ops.specs.Slots.{Slots, lookup, filled_slot, empty_slots}
use Rattle.std.proofs.Common.{None, ap}

abbrev item_or : {A : Type 0} → A → Option A → A
item_or x None = x
item_or x (Some y) = y

pub filled_holds : {A : Type 0} (P : A → Type 0) (slots : Slots A) (i : ℕ) (x : A) → ((k : ℕ) (y : A) → lookup k slots ≡ Some y → P y) → P x
    → (k : ℕ) (y : A) → lookup k (filled_slot i x slots) ≡ Some y → P y
filled_holds P [] i x old new k y e = old k y e
filled_holds P (s ∷ ss) zero x old new zero y e = subst P (ap (item_or x) e) new
filled_holds P (s ∷ ss) zero x old new (suc k) y e = old (suc k) y e
filled_holds P (s ∷ ss) (suc i) x old new zero y e = old zero y e
filled_holds P (s ∷ ss) (suc i) x old new (suc k) y e = filled_holds P ss i x (λ m z h. old (suc m) z h) new k y e

-- nothing is held at first
pub none_held : {A : Type 0} (n k : ℕ) (y : A) → lookup k (empty_slots n) ≡ Some y → {P : Type 0} → P
none_held zero k y e = absurd (cc e)
none_held (suc n) zero y e = absurd (cc e)
none_held (suc n) (suc k) y e = none_held n k y e
