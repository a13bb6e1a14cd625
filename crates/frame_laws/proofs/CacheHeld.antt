-- One cache of a client goes on to hold what its held keys stand for: over a hit, and over a miss that fills the index of the use.
use Rattle.std.proofs.Common.{◌≡◌, ◌≢◌, ℕ, zero, suc, ◌<◌, ◌≤◌, eqb, List, [], ◌∷◌, length, refl, ap, sym, ◌∙◌, subst, arith, Some, ⊎_elim}
use Rattle.std.specs.Prelude.{Bool, true, false, nat_le, ◌||◌, not, Option}
use Rattle.std.proofs.lemmas.Bool.Decides.{eqb_tells, nat_tests}
use Rattle.draw_ops.specs.Slots.{Slots, lookup, filled_slot}
use Rattle.cache_plan.specs.CacheUse.{is_used, other_keys, distinct_keys, uses_since, misses, last_index, cache_index}
use Rattle.cache_plan.proofs.Recency.{NoRepeats, no_repeats, others_of_unused}
use Rattle.cache_plan.proofs.Indices.{held_indices_differ, held_after_use, index_of_use}
use Rattle.cache_plan.proofs.Steps.{index_after_hit, index_of_others}

-- each held key's index has its content
abbrev pub Holds : {A B : Type 0} → (A → B) → (ℕ → Option A) → ℕ → List ℕ → Slots B → Type 0
Holds {A} {B} f content entries past slots = (key : ℕ) → misses entries past key ≡ false
    → (x : A) × (content key ≡ Some x) × (lookup (last_index entries past key) slots ≡ Some (f x))

-- ---- what is held after a use of another key was held before

others_least : (k : ℕ) (xs : List ℕ) → NoRepeats xs → length xs ≤ suc (length (other_keys k xs))
others_least k [] n = omega arith
others_least k (x ∷ xs) n = ⊎_elim
    (λ (t : (eqb k x ≡ true) × (k ≡ x)). let rest : other_keys k xs ≡ xs = others_of_unused k xs (subst (λ z. is_used z xs ≡ false) (sym t.1) n.0) in rw
    (t.0, rest) (omega arith))
    (λ (t : (eqb k x ≡ false) × (k ≢ x)). let more = others_least k xs n.1 in rw t.0 (omega (arith, more)))
    (eqb_tells k x)

or_false : (u v : Bool) → (u || v) ≡ false → (u ≡ false) × (v ≡ false)
or_false true v e = absurd (cc e)
or_false false v e = (refl, e)

pub held_before : (c : ℕ) (past : List ℕ) (k key : ℕ) → eqb key k ≡ false → misses c (k ∷ past) key ≡ false → misses c past key ≡ false
held_before c past k key other held =
    let now : (not (is_used key past) || nat_le c (suc (length (other_keys k (distinct_keys (uses_since key past)))))) ≡ false = (rw other at held) in
    let parts = or_false (not (is_used key past)) (nat_le c (suc (length (other_keys k (distinct_keys (uses_since key past)))))) now in
    let used = parts.0 in
    let few = parts.1 in
    let least = others_least k (distinct_keys (uses_since key past)) (no_repeats (uses_since key past)) in
    let fewer : nat_le c (length (distinct_keys (uses_since key past))) ≡ false = grind (arith, nat_tests, few, least) in
    ap (λ b. b || nat_le c (length (distinct_keys (uses_since key past)))) used ∙ fewer

-- ---- slots

filled_same : {B : Type 0} (i : ℕ) (x : B) (slots : Slots B) → i < length slots → lookup i (filled_slot i x slots) ≡ Some x
filled_same i x [] h = absurd (omega (arith, h))
filled_same zero x (s ∷ slots) h = refl
filled_same (suc i) x (s ∷ slots) h = filled_same i x slots (omega (arith, h))

filled_other : {B : Type 0} (i k : ℕ) (x : B) (slots : Slots B) → k ≢ i → lookup k (filled_slot i x slots) ≡ lookup k slots
filled_other i k x [] h = refl
filled_other zero zero x (s ∷ slots) h = absurd (h refl)
filled_other zero (suc k) x (s ∷ slots) h = refl
filled_other (suc i) zero x (s ∷ slots) h = refl
filled_other (suc i) (suc k) x (s ∷ slots) h = filled_other i k x slots (λ e. h (ap suc e))

-- ---- a use

module _ {A B : Type 0} (f : A → B) (content : ℕ → Option A) (c : ℕ) (past : List ℕ) (slots : Slots B) (k : ℕ) where
  -- a hit changes nothing
  pub holds_hit : misses c past k ≡ false → Holds f content c past slots → Holds f content c (k ∷ past) slots
  holds_hit hit holds key held = ⊎_elim
      (λ (t : (eqb key k ≡ true) × (key ≡ k)). there key (subst (λ z. misses c past z ≡ false) (sym t.1) hit))
      (λ (t : (eqb key k ≡ false) × (key ≢ k)). there key (held_before c past k key t.0 held))
      (eqb_tells key k)
    where
      there : (key : ℕ) → misses c past key ≡ false → (x : A) × (content key ≡ Some x) × (lookup (last_index c (k ∷ past) key) slots ≡ Some (f x))
      there key h = let old = holds key h in (old.0, old.1, ap (λ i. lookup i slots) (index_after_hit c past k key hit) ∙ old.2)

  -- a key's content at its index after a miss of this one
  abbrev Has : A → ℕ → Type 0
  Has x key = (y : A) × (content key ≡ Some y) × (lookup (last_index c (k ∷ past) key) (filled_slot (cache_index c past k) (f x) slots) ≡ Some (f y))

  -- a miss fills its index
  pub holds_miss : (x : A) → content k ≡ Some x → 0 < c → cache_index c past k < length slots → Holds f content c past slots
      → Holds f content c (k ∷ past) (filled_slot (cache_index c past k) (f x) slots)
  holds_miss x is some inside holds key held = ⊎_elim
      (λ (t : (eqb key k ≡ true) × (key ≡ k)). own key t.1)
      (λ (t : (eqb key k ≡ false) × (key ≢ k)). others key t.0 t.1 held)
      (eqb_tells key k)
    where
      own : (key : ℕ) → key ≡ k → Has x key
      own key same = subst (Has x) (sym same) (
        x,
        is,
        ap (λ i. lookup i (filled_slot (cache_index c past k) (f x) slots)) (sym (index_of_use c past k))
            ∙ filled_same (cache_index c past k) (f x) slots inside,
      )

      others : (key : ℕ) → eqb key k ≡ false → key ≢ k → misses c (k ∷ past) key ≡ false → Has x key
      others key e ne held =
          let old = holds key (held_before c past k key e held) in
          let apart : last_index c past key ≢ cache_index c past k = λ same. ne (held_indices_differ c (k ∷ past) key k some held (held_after_use c past k some)
          (index_of_others c past k key e ∙ (same ∙ index_of_use c past k))) in (
            old.0,
            old.1,
            ap (λ i. lookup i (filled_slot (cache_index c past k) (f x) slots)) (index_of_others c past k key e)
                ∙ (filled_other (cache_index c past k) (last_index c past key) (f x) slots apart ∙ old.2),
          )
