-- What one more use does to the keys held and to their indices.
use Rattle.std.proofs.Common.{◌≡◌, ◌≢◌, ℕ, zero, suc, eqb, Bool, true, false, ◌&&◌, not, List, [], ◌∷◌, take, sym, refl, ap, ◌∙◌, subst, ⊎_elim}
use Rattle.std.proofs.lemmas.Bool.Decides.{eqb_tells}
use Rattle.cache_plan.specs.CacheUse.{is_used, other_keys, distinct_keys, misses, held_keys, index_after, miss_index, last_index}
use Rattle.cache_plan.proofs.Recency.{NoRepeats, not_both, same_as_itself, no_repeats, others_of_unused, hit_is_among_first, held_are_first}

abbrev pub removed_if : Bool → ℕ → List ℕ → List ℕ → List ℕ
removed_if true x xs rest = xs
removed_if false x xs rest = x ∷ rest

-- a list without the first k
abbrev pub remove_key : ℕ → List ℕ → List ℕ
remove_key k [] = []
remove_key k (x ∷ xs) = removed_if (eqb k x) x xs (remove_key k xs)

remove_among_first : (k n : ℕ) (xs : List ℕ) → NoRepeats xs → is_used k (take (suc n) xs) ≡ true → remove_key k (take (suc n) xs) ≡ take n (other_keys k xs)
remove_among_first k n [] d u = not_both false u refl
remove_among_first k zero (x ∷ xs) d u = ⊎_elim
    (λ (t : (eqb k x ≡ true) × (k ≡ x)). rw t.0 refl)
    (λ (t : (eqb k x ≡ false) × (k ≢ x)). not_both false (rw t.0 at u) refl)
    (eqb_tells k x)
remove_among_first k (suc m) (x ∷ xs) d u = ⊎_elim
    (λ (t : (eqb k x ≡ true) × (k ≡ x)). rw t.0 (ap (take (suc m)) (sym (others_of_unused k xs (subst (λ z. is_used z xs ≡ false) (sym t.1) d.0)))))
    (λ (t : (eqb k x ≡ false) × (k ≢ x)). rw t.0 (ap (λ l. x ∷ l) (remove_among_first k m xs d.1 (rw t.0 at u))))
    (eqb_tells k x)

take_unused : (k n : ℕ) (xs : List ℕ) → is_used k (take (suc n) xs) ≡ false → take n (take (suc n) xs) ≡ take n (other_keys k xs)
take_unused k zero xs u = refl
take_unused k (suc m) [] u = refl
take_unused k (suc m) (x ∷ xs) u = ⊎_elim
    (λ (t : (eqb k x ≡ true) × (k ≡ x)). not_both true refl (rw t.0 at u))
    (λ (t : (eqb k x ≡ false) × (k ≢ x)). rw t.0 (ap (λ l. x ∷ l) (take_unused k m xs (rw t.0 at u))))
    (eqb_tells k x)

pub unused_among_first : (k n : ℕ) (xs : List ℕ) → is_used k xs ≡ false → is_used k (take n xs) ≡ false
unused_among_first k zero xs u = refl
unused_among_first k (suc n) [] u = refl
unused_among_first k (suc n) (x ∷ xs) u = ⊎_elim
    (λ (t : (eqb k x ≡ true) × (k ≡ x)). not_both true refl (rw t.0 at u))
    (λ (t : (eqb k x ≡ false) × (k ≢ x)). rw t.0 (unused_among_first k n xs (rw t.0 at u)))
    (eqb_tells k x)

-- a key is held exactly where its use wouldn't miss
pub held_is_no_miss : (c : ℕ) (past : List ℕ) (k : ℕ) → is_used k (held_keys c past) ≡ not (misses c past k)
held_is_no_miss c past k = ap (is_used k) (held_are_first c past) ∙ sym (hit_is_among_first c past k)

-- after a hit the key is the last used
pub held_after_hit : (n : ℕ) (past : List ℕ) (k : ℕ) → is_used k (held_keys (suc n) past) ≡ true
    → held_keys (suc n) (k ∷ past) ≡ k ∷ remove_key k (held_keys (suc n) past)
held_after_hit n past k held = let D : List ℕ = distinct_keys past in let first = held_are_first (suc n) past in
    held_are_first (suc n) (k ∷ past)
    ∙ ap (λ l. k ∷ l) (sym (remove_among_first k n D (no_repeats past) (sym (ap (is_used k) first) ∙ held)) ∙ ap (remove_key k) (sym first))

-- after a miss too, and of a full cache the last key is dropped
pub held_after_miss : (n : ℕ) (past : List ℕ) (k : ℕ) → is_used k (held_keys (suc n) past) ≡ false
    → held_keys (suc n) (k ∷ past) ≡ k ∷ take n (held_keys (suc n) past)
held_after_miss n past k held = let D : List ℕ = distinct_keys past in let first = held_are_first (suc n) past in
    held_are_first (suc n) (k ∷ past)
    ∙ ap (λ l. k ∷ l) (sym (take_unused k n D (sym (ap (is_used k) first) ∙ held)) ∙ ap (take n) (sym first))

-- the key used isn't among the others held
pub unused_after : (n : ℕ) (past : List ℕ) (k : ℕ) → is_used k (take n (other_keys k (distinct_keys past))) ≡ false
unused_after n past k = unused_among_first k n (other_keys k (distinct_keys past)) (no_repeats (k ∷ past)).0

and_false : (b : Bool) → b && false ≡ false
and_false true = refl
and_false false = refl

-- a hit changes no index
pub index_after_hit : (c : ℕ) (past : List ℕ) (k x : ℕ) → misses c past k ≡ false → last_index c (k ∷ past) x ≡ last_index c past x
index_after_hit c past k x hit = ap (λ b. index_after ((eqb x k) && b) c past (last_index c past) x) hit ∙ ap (λ b. index_after b c past (last_index c past) x) (and_false (eqb x k))

-- a miss gives its key an index, and changes no other's
pub index_after_miss : (c : ℕ) (past : List ℕ) (k : ℕ) → misses c past k ≡ true → last_index c (k ∷ past) k ≡ miss_index c past (last_index c past)
index_after_miss c past k miss = λ j. index_after (same_as_itself k j && miss j) c past (last_index c past) k

pub index_of_others : (c : ℕ) (past : List ℕ) (k x : ℕ) → eqb x k ≡ false → last_index c (k ∷ past) x ≡ last_index c past x
index_of_others c past k x other = ap (λ b. index_after (b && misses c past k) c past (last_index c past) x) other
