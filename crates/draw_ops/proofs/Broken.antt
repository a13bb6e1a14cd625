-- The first of some refusals, and the rules of a run, by their items.
use Rattle.std.proofs.Common.{◌≡◌, ℕ, zero, suc, ◌<◌, List, [], ◌∷◌, length, get_or, refl, ap, sym, ◌∙◌, arith}
use Rattle.std.specs.Prelude.{Bool, true, false, ◌&&◌, nat_le, Option, Some, None}
use Rattle.draw_ops.specs.Fits.{first_some, code_limit_rule, codes_rule, deltas_are_small}

pub first_is : (os : List (Option ℕ)) (i y : ℕ) → ((k : ℕ) → k < i → get_or os k None ≡ None) → get_or os i None ≡ Some y → Some y ≡ first_some os
first_is [] i y none is = absurd (cc is)
first_is (None ∷ os) zero y none is = absurd (cc is)
first_is (Some x ∷ os) zero y none is = sym is
first_is (None ∷ os) (suc i) y none is = first_is os i y (λ k lt. none (suc k) (omega (arith, lt))) is
first_is (Some x ∷ os) (suc i) y none is = absurd (cc (none 0 (omega arith)))

pub none_is_first : (os : List (Option ℕ)) → ((k : ℕ) → k < length os → get_or os k None ≡ None) → None ≡ first_some os
none_is_first [] none = refl
none_is_first (None ∷ os) none = none_is_first os (λ k lt. none (suc k) (omega (arith, lt)))
none_is_first (Some x ∷ os) none = absurd (cc (none 0 (omega arith)))

only : (o : Option ℕ) → first_some (o ∷ []) ≡ o
only None = refl
only (Some x) = refl

pub no_code_is : (ps : List (ℕ × ℕ)) → ((k : ℕ) → k < length ps → code_limit_rule (get_or ps k (0, 0)).0 ≡ None) → None ≡ codes_rule ps
no_code_is [] none = refl
no_code_is (p ∷ ps) none = no_code_is ps (λ k lt. none (suc k) (omega (arith, lt)))
    ∙ sym (ap (λ o. first_some (o ∷ codes_rule ps ∷ [])) (none 0 (omega arith)) ∙ only (codes_rule ps))

pub great_delta : (ps : List (ℕ × ℕ)) (i : ℕ) → i < length ps → nat_le (get_or ps i (0, 0)).1 127 ≡ false → false ≡ deltas_are_small ps
great_delta [] i inside is = absurd (omega (arith, inside))
great_delta (p ∷ ps) zero inside is = sym (ap (λ b. b && deltas_are_small ps) is)
great_delta (p ∷ ps) (suc i) inside is = sym (by (nat_le p.1 127) (deltas_are_small ps) (sym (great_delta ps i (omega (arith, inside)) is)))
  where
    by : (b c : Bool) → c ≡ false → (b && c) ≡ false
    by true c h = h
    by false c h = refl

pub small_deltas : (ps : List (ℕ × ℕ)) → ((k : ℕ) → k < length ps → nat_le (get_or ps k (0, 0)).1 127 ≡ true) → true ≡ deltas_are_small ps
small_deltas [] small = refl
small_deltas (p ∷ ps) small = small_deltas ps (λ k lt. small (suc k) (omega (arith, lt))) ∙ sym (ap (λ b. b && deltas_are_small ps) (small 0 (omega arith)))
