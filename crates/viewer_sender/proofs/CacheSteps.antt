-- A use of one cache among several.
use Rattle.std.proofs.Common.{◌≡◌, ◌≢◌, ℕ, zero, suc, ◌<◌, List, [], ◌∷◌, length, refl, ap, sym, ◌∙◌, subst, arith, eqb, slice_index_or, slice_set, ⊎_elim}
use Rattle.std.specs.Prelude.{Bool, true, false, ◌==◌, ◌&&◌, ◌||◌, not, nat_le, nat_lt, Option, Some, None, Result, Ok, Err, IfOk}
use Rattle.std.proofs.lemmas.Bool.Decides.{eqb_tells, nat_tests}
use Rattle.draw_ops.specs.Slots.{Slots, lookup}
use Rattle.caps_sets.specs.declared.confirmed.Confirmed.{Confirmed}
use Rattle.cache_plan.specs.CacheUse.{with_item, uses_of, misses, cache_index, last_index, index_after, miss_index, new_index, held_among, distinct_keys, uses_since, is_used, oldest_key}
use Rattle.cache_plan.specs.Kept.{Kept}
use Rattle.cache_plan.specs.Answers.{IsAfterUses, use_of, use_by}
use Rattle.cache_plan.specs.declared.uses.Use.TheVariants.{Miss}
use Rattle.frame_rules.specs.FrameOrders.{Uses, entries_of}
use Rattle.viewer_sender.specs.Stands.{CacheStands, CachesStand}

pub lookup_at : {A : Type 0} (xs : Slots A) (k : ℕ) (d : Option A) (o : Option A) → k < length xs → slice_index_or xs k d ≡ o → lookup k xs ≡ o
lookup_at [] k d o h e = absurd (omega (arith, h))
lookup_at (y ∷ ys) zero d o h e = e
lookup_at (y ∷ ys) (suc k) d o h e = lookup_at ys k d o (omega (arith, h)) e

lookup_set : {A : Type 0} (xs : Slots A) (k : ℕ) (x : A) → k < length xs → lookup k (slice_set xs k (Some x)) ≡ Some x
lookup_set [] k x h = absurd (omega (arith, h))
lookup_set (y ∷ ys) zero x h = refl
lookup_set (y ∷ ys) (suc k) x h = lookup_set ys k x (omega (arith, h))

lookup_other : {A : Type 0} (xs : Slots A) (k m : ℕ) (x : A) → m ≢ k → lookup m (slice_set xs k (Some x)) ≡ lookup m xs
lookup_other [] k m x h = refl
lookup_other (y ∷ ys) zero zero x h = absurd (h refl)
lookup_other (y ∷ ys) zero (suc m) x h = refl
lookup_other (y ∷ ys) (suc k) zero x h = refl
lookup_other (y ∷ ys) (suc k) (suc m) x h = lookup_other ys k m x (λ e. h (ap suc e))

module _ (c : Confirmed) (caches : List (Option Kept)) (uses : Uses) (k n : ℕ) (kept new : Kept) where
  -- one more use
  pub caches_used : lookup k caches ≡ Some kept → k < length caches → new.entries ≡ kept.entries → ((past : List ℕ) → IsAfterUses kept past → IsAfterUses new (n ∷ past)) → CachesStand c caches uses
      → k < 14 → CachesStand c (slice_set caches k (Some new)) ((k, n) ∷ uses)
  caches_used held inside same goes stands few m below = ⊎_elim
      (λ (t : (eqb m k ≡ true) × (m ≡ k)). own m t.0 t.1)
      (λ (t : (eqb m k ≡ false) × (m ≢ k)). others m t.0 t.1 below)
      (eqb_tells m k)
    where
      own : (m : ℕ) → eqb m k ≡ true → m ≡ k → CacheStands (lookup m (slice_set caches k (Some new))) (entries_of c m) (uses_of m ((k, n) ∷ uses))
      own m test is =
          let old : CacheStands (Some kept) (entries_of c k) (uses_of k uses) = subst (λ o. CacheStands o (entries_of c k) (uses_of k uses)) held (stands k few) in
          let there : lookup m (slice_set caches k (Some new)) ≡ Some new = ap (λ i. lookup i (slice_set caches k (Some new))) is ∙ lookup_set caches k new inside in
          let past : uses_of m ((k, n) ∷ uses) ≡ n ∷ uses_of k uses = ap (λ t. with_item t n (uses_of m uses)) test ∙ ap (λ i. n ∷ uses_of i uses) is in
          subst (λ o. CacheStands o (entries_of c m) (uses_of m ((k, n) ∷ uses))) (sym there)
          (subst (λ p. CacheStands (Some new) (entries_of c m) p) (sym past) (same ∙ (old.0 ∙ ap (entries_of c) (sym is)), goes (uses_of k uses) old.1))

      others : (m : ℕ) → eqb m k ≡ false → m ≢ k → m < 14 → CacheStands (lookup m (slice_set caches k (Some new))) (entries_of c m) (uses_of m ((k, n) ∷ uses))
      others m test ne below =
          subst (λ o. CacheStands o (entries_of c m) (uses_of m ((k, n) ∷ uses))) (sym (lookup_other caches k m new ne))
          (subst (λ p. CacheStands (lookup m caches) (entries_of c m) p) (sym (ap (λ t. with_item t n (uses_of m uses)) test)) (stands m below))

-- ---- a cache without an entry

or_true : (b : Bool) → (b || true) ≡ true
or_true true = refl
or_true false = refl

least : (n : ℕ) → nat_le 0 n ≡ true
least n = grind (arith, nat_tests)

all_miss : (past : List ℕ) (k : ℕ) → misses 0 past k ≡ true
all_miss past k = ap (λ b. not (is_used k past) || b) (least (length (distinct_keys (uses_since k past)))) ∙ or_true (not (is_used k past))

none_held : (past ks : List ℕ) → held_among 0 past ks ≡ []
none_held past [] = refl
none_held past (k ∷ ks) = ap (λ b. with_item (not b) k (held_among 0 past ks)) (all_miss past k) ∙ none_held past ks

no_room : (n : ℕ) → nat_lt n 0 ≡ false
no_room n = grind (arith, nat_tests)

-- each index is 0
index_is_0 : (past : List ℕ) (k : ℕ) → last_index 0 past k ≡ 0
index_is_0 [] k = refl
index_is_0 (x ∷ past) k = by ((k == x) && misses 0 past x)
    (ap (λ t. new_index t (length (distinct_keys past)) (last_index 0 past) (oldest_key 0 past)) (no_room (length (distinct_keys past))) ∙ index_is_0 past (oldest_key 0 past))
    (index_is_0 past k)
  where
    by : (b : Bool) → miss_index 0 past (last_index 0 past) ≡ 0 → last_index 0 past k ≡ 0 → index_after b 0 past (last_index 0 past) k ≡ 0
    by true a b = a
    by false a b = b

miss_is_0 : (past : List ℕ) → miss_index 0 past (last_index 0 past) ≡ 0
miss_is_0 past = ap (λ t. new_index t (length (distinct_keys past)) (last_index 0 past) (oldest_key 0 past)) (no_room (length (distinct_keys past))) ∙ index_is_0 past (oldest_key 0 past)

pub use_of_none : (entries : ℕ) (past : List ℕ) (k : ℕ) → entries ≡ 0 → Miss 0 ≡ use_of entries past k
use_of_none entries past k e = sym (ap (λ n. use_of n past k) e ∙ (ap (λ b. use_by b (cache_index 0 past k)) (all_miss past k) ∙ ap Miss index))
  where
    index : cache_index 0 past k ≡ 0
    index = ap (λ b. index_after b 0 past (last_index 0 past) k) (all_miss past k) ∙ miss_is_0 past

module _ (c : Confirmed) (caches : List (Option Kept)) (uses : Uses) (k n : ℕ) where
  -- a use of a cache that isn't made leaves all
  pub none_used : lookup k caches ≡ None → CachesStand c caches uses → CachesStand c caches ((k, n) ∷ uses)
  none_used none stands m below = ⊎_elim
      (λ (t : (eqb m k ≡ true) × (m ≡ k)). own m t.1 below)
      (λ (t : (eqb m k ≡ false) × (m ≢ k)). subst (λ p. CacheStands (lookup m caches) (entries_of c m) p) (sym (ap (λ b. with_item b n (uses_of m uses)) t.0)) (stands m below))
      (eqb_tells m k)
    where
      own : (m : ℕ) → m ≡ k → m < 14 → CacheStands (lookup m caches) (entries_of c m) (uses_of m ((k, n) ∷ uses))
      own m is below =
          let there : lookup m caches ≡ None = ap (λ i. lookup i caches) is ∙ none in
          let old : entries_of c m ≡ 0 = subst (λ o. CacheStands o (entries_of c m) (uses_of m uses)) there (stands m below) in
          subst (λ o. CacheStands o (entries_of c m) (uses_of m ((k, n) ∷ uses))) (sym there) old

-- a slot that is set to what it holds
pub set_same : {A : Type 0} (xs : List A) (k : ℕ) (d v : A) → v ≡ slice_index_or xs k d → slice_set xs k v ≡ xs
set_same [] k d v e = refl
set_same (x ∷ xs) zero d v e = ap (λ y. y ∷ xs) e
set_same (x ∷ xs) (suc k) d v e = ap (λ ys. x ∷ ys) (set_same xs k d v e)

-- what IfOk says goes over to what follows from it
pub if_ok_as : {A E : Type 0} (P Q : A → Type 0) (r : Result A E) → IfOk r P → ((a : A) → P a → Q a) → IfOk r Q
if_ok_as P Q (Ok a) h f = f a h
if_ok_as P Q (Err e) h f = h
