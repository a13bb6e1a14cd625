-- A cache that is where a history of uses leads answers the next use by the definition, and is then where that leads.
use Rattle.std.proofs.Common.{◌≡◌, ◌≢◌, ℕ, zero, suc, ◌-◌, ◌<◌, ◌≤◌, eqb, nat_lt, Bool, true, false, not, cond, List, [], ◌∷◌, length, map, take, sym, refl, ap, ◌∙◌, subst, ⊎_elim, arith, Some, None, slice_get}
use Rattle.std.proofs.lemmas.Bool.{ltb-true}
use Rattle.std.proofs.lemmas.Bool.Decides.{eqb_tells, nat_tests}
use Rattle.std.proofs.lemmas.List.{length-map}
use Rattle.std.specs.Map.{lookup, lookup_entry, remove_entry}
use Rattle.lru.specs.LruCache.{promoted, put_entries, lru_cache, last_entry}
use Rattle.cache_plan.specs.CacheUse.{is_used, distinct_keys, misses, held_keys, last_key, new_index, miss_index, index_after, last_index}
use Rattle.cache_plan.proofs.Recency.{not_both, other_way, held_are_first}
use Rattle.cache_plan.proofs.Steps.{remove_key, held_is_no_miss, held_after_hit, held_after_miss, index_after_hit, index_after_miss, index_of_others, unused_among_first}
use Rattle.cache_plan.specs.declared.uses.Use.TheVariants.{Hit, Miss}
use Rattle.cache_plan.specs.Answers.{use_by, use_of}

-- keys with their indices
abbrev pub with_index : (ℕ → ℕ) → List ℕ → List (ℕ × ℕ)
with_index index ks = map (λ k. (k, index k)) ks

lookup_index : (f : ℕ → ℕ) (k : ℕ) (ks : List ℕ) → lookup (eqb k) (with_index f ks) ≡ cond (is_used k ks) (Some (f k)) None
lookup_index f k [] = refl
lookup_index f k (x ∷ xs) = ⊎_elim
    (λ (t : (eqb k x ≡ true) × (k ≡ x)). rw t.0 (ap (λ z. Some (f z)) (sym t.1)))
    (λ (t : (eqb k x ≡ false) × (k ≢ x)). rw t.0 (lookup_index f k xs))
    (eqb_tells k x)

lookup_pair : (f : ℕ → ℕ) (k : ℕ) (ks : List ℕ) → lookup_entry (eqb k) (with_index f ks) ≡ cond (is_used k ks) (Some (k, f k)) None
lookup_pair f k [] = refl
lookup_pair f k (x ∷ xs) = ⊎_elim
    (λ (t : (eqb k x ≡ true) × (k ≡ x)). rw t.0 (ap (λ z. Some (z, f z)) (sym t.1)))
    (λ (t : (eqb k x ≡ false) × (k ≢ x)). rw t.0 (lookup_pair f k xs))
    (eqb_tells k x)

remove_pair : (f : ℕ → ℕ) (k : ℕ) (ks : List ℕ) → remove_entry (eqb k) (with_index f ks) ≡ with_index f (remove_key k ks)
remove_pair f k [] = refl
remove_pair f k (x ∷ xs) = ⊎_elim
    (λ (t : (eqb k x ≡ true) × (k ≡ x)). rw t.0 refl)
    (λ (t : (eqb k x ≡ false) × (k ≢ x)). rw t.0 (ap (λ l. (x, f x) ∷ l) (remove_pair f k xs)))
    (eqb_tells k x)

take_pairs : (f : ℕ → ℕ) (n : ℕ) (ks : List ℕ) → take n (with_index f ks) ≡ with_index f (take n ks)
take_pairs f zero ks = refl
take_pairs f (suc n) [] = refl
take_pairs f (suc n) (x ∷ xs) = ap (λ l. (x, f x) ∷ l) (take_pairs f n xs)

same_indices : (f g : ℕ → ℕ) (ks : List ℕ) → ((x : ℕ) → f x ≡ g x) → with_index f ks ≡ with_index g ks
same_indices f g [] same = refl
same_indices f g (x ∷ xs) same = let e = same x in let r = same_indices f g xs same in λ i. (x, e i) ∷ r i

same_but_one : (f g : ℕ → ℕ) (k : ℕ) (ks : List ℕ) → ((x : ℕ) → eqb x k ≡ false → f x ≡ g x) → is_used k ks ≡ false → with_index f ks ≡ with_index g ks
same_but_one f g k [] same u = refl
same_but_one f g k (x ∷ xs) same u = ⊎_elim
    (λ (t : (eqb k x ≡ true) × (k ≡ x)). not_both true refl (rw t.0 at u))
    (λ (t : (eqb k x ≡ false) × (k ≢ x)). let e : f x ≡ g x = same x (other_way k x t.0) in let r = same_but_one f g k xs same (rw t.0 at u) in λ i. (x, e i) ∷ r i)
    (eqb_tells k x)

last_pair : (f : ℕ → ℕ) (n : ℕ) (ks : List ℕ) (e : ℕ × ℕ) → length ks ≡ suc n → slice_get (with_index f ks) n ≡ Some e → e.1 ≡ f (last_key ks)
last_pair f n [] e l g = absurd (omega (arith, l))
last_pair f zero (x ∷ []) e l g = let h : (x, f x) ≡ e = cc in sym (ap (λ z. z.1) h)
last_pair f (suc n) (x ∷ []) e l g = absurd (omega (arith, l))
last_pair f zero (x ∷ y ∷ ys) e l g = absurd (omega (arith, l))
last_pair f (suc n) (x ∷ y ∷ ys) e l g = last_pair f n (y ∷ ys) e (omega (arith, l)) g

take_whole : (c : ℕ) (xs : List ℕ) → length xs < c → length (take c xs) ≡ length xs
take_whole zero xs l = absurd (omega (arith, l))
take_whole (suc c) [] l = refl
take_whole (suc c) (x ∷ xs) l = ap suc (take_whole c xs (omega (arith, l)))

take_full : (c : ℕ) (xs : List ℕ) → c ≤ length xs → length (take c xs) ≡ c
take_full zero xs l = refl
take_full (suc c) [] l = absurd (omega (arith, l))
take_full (suc c) (x ∷ xs) l = ap suc (take_full c xs (omega (arith, l)))

hit_or_miss : (used miss : Bool) → used ≡ not miss → used ≡ true → miss ≡ false
hit_or_miss used true is yes' = not_both used yes' is
hit_or_miss used false is yes' = refl

miss_or_hit : (used miss : Bool) → used ≡ not miss → used ≡ false → miss ≡ true
miss_or_hit used true is none = refl
miss_or_hit used false is none = not_both used is none

found_is_used : (used : Bool) (v i : ℕ) → cond used (Some v) None ≡ Some i → (used ≡ true) × (v ≡ i)
found_is_used true v i e = (refl, cc)
found_is_used false v i e = cc

missing_is_unused : (used : Bool) (v : ℕ) → cond used (Some v) None ≡ None → used ≡ false
missing_is_unused true v e = cc
missing_is_unused false v e = refl

-- a key that is found is a hit at its index, and goes first
pub hit_step : (n : ℕ) (held : List (ℕ × ℕ)) (past : List ℕ) (k i : ℕ)
    → held ≡ with_index (last_index (suc n) past) (held_keys (suc n) past) → lookup (eqb k) held ≡ Some i
    → (misses (suc n) past k ≡ false) × (Hit i ≡ use_of (suc n) past k)
    × (promoted (eqb k) held ≡ with_index (last_index (suc n) (k ∷ past)) (held_keys (suc n) (k ∷ past)))
hit_step n held past k i leads found = (hit, said, moved)
  where
    f : ℕ → ℕ
    f = last_index (suc n) past

    ks : List ℕ
    ks = held_keys (suc n) past

    was : (is_used k ks ≡ true) × (f k ≡ i)
    was = found_is_used (is_used k ks) (f k) i (sym (lookup_index f k ks) ∙ ap (lookup (eqb k)) (sym leads) ∙ found)

    hit : misses (suc n) past k ≡ false
    hit = hit_or_miss (is_used k ks) (misses (suc n) past k) (held_is_no_miss (suc n) past k) was.0

    said : Hit i ≡ use_of (suc n) past k
    said = ap Hit (sym was.1) ∙ sym (ap (λ b. use_by b (index_after b (suc n) past f k)) hit)

    there : lookup_entry (eqb k) held ≡ Some (k, f k)
    there = ap (lookup_entry (eqb k)) leads ∙ lookup_pair f k ks ∙ ap (λ b. cond b (Some (k, f k)) None) was.0

    first : promoted (eqb k) held ≡ (k, f k) ∷ remove_entry (eqb k) held
    first = rw there refl

    moved : promoted (eqb k) held ≡ with_index (last_index (suc n) (k ∷ past)) (held_keys (suc n) (k ∷ past))
    moved = first ∙ ap (λ l. (k, f k) ∷ l) (ap (remove_entry (eqb k)) leads ∙ remove_pair f k ks)
        ∙ same_indices f (last_index (suc n) (k ∷ past)) (k ∷ remove_key k ks) (λ x. sym (index_after_hit (suc n) past k x hit))
        ∙ ap (with_index (last_index (suc n) (k ∷ past))) (sym (held_after_hit n past k was.0))

-- a key that isn't found misses at the index that the definition gives, and goes first; of a full cache the last entry is dropped
pub miss_step : (n : ℕ) (held : List (ℕ × ℕ)) (past : List ℕ) (k i : ℕ)
    → held ≡ with_index (last_index (suc n) past) (held_keys (suc n) past) → lookup (eqb k) held ≡ None
    → (length held < suc n → i ≡ length held) → (suc n ≤ length held → (e : ℕ × ℕ) × (last_entry held ≡ Some e) × (i ≡ e.1))
    → (misses (suc n) past k ≡ true) × (Miss i ≡ use_of (suc n) past k)
    × (put_entries eqb (lru_cache held (suc n)) k i ≡ with_index (last_index (suc n) (k ∷ past)) (held_keys (suc n) (k ∷ past)))
miss_step n held past k i leads missing room full = (miss, said, moved)
  where
    D : List ℕ
    D = distinct_keys past

    f : ℕ → ℕ
    f = last_index (suc n) past

    ks : List ℕ
    ks = held_keys (suc n) past

    g : ℕ → ℕ
    g = last_index (suc n) (k ∷ past)

    unused : is_used k ks ≡ false
    unused = missing_is_unused (is_used k ks) (f k) (sym (lookup_index f k ks) ∙ ap (lookup (eqb k)) (sym leads) ∙ missing)

    miss : misses (suc n) past k ≡ true
    miss = miss_or_hit (is_used k ks) (misses (suc n) past k) (held_is_no_miss (suc n) past k) unused

    long : length held ≡ length ks
    long = ap length leads ∙ length-map ks (λ x. (x, f x))

    cut : length ks ≡ length (take (suc n) D)
    cut = ap length (held_are_first (suc n) past)

    value : (b : Bool) → nat_lt (length D) (suc n) ≡ b → i ≡ new_index b (length D) f (last_key ks)
    value true e = let lt = ltb-true (length D) (suc n) e in let w = long ∙ cut ∙ take_whole (suc n) D lt in room (omega (arith, w, lt)) ∙ w
    value false e = let ge : suc n ≤ length D = grind (arith, nat_tests) in let w = long ∙ cut ∙ take_full (suc n) D ge in let last_is = full (omega (arith, w)) in
        let m : ℕ = length held - 1 in
        last_is.2 ∙ last_pair f m ks last_is.0 (omega (arith, long, w)) (subst (λ es. slice_get es m ≡ Some last_is.0) leads last_is.1)

    here : i ≡ miss_index (suc n) past f
    here = value (nat_lt (length D) (suc n)) refl

    said : Miss i ≡ use_of (suc n) past k
    said = ap Miss here ∙ sym (ap (λ b. use_by b (index_after b (suc n) past f k)) miss)

    absent : lookup_entry (eqb k) held ≡ None
    absent = ap (lookup_entry (eqb k)) leads ∙ lookup_pair f k ks ∙ ap (λ b. cond b (Some (k, f k)) None) unused

    put : put_entries eqb (lru_cache held (suc n)) k i ≡ (k, i) ∷ take n held
    put = let less : suc n - 1 ≡ n = omega arith in rw (absent, less) refl

    moved : put_entries eqb (lru_cache held (suc n)) k i ≡ with_index g (held_keys (suc n) (k ∷ past))
    moved = put ∙ ap (λ l. (k, i) ∷ l) (ap (take n) leads ∙ take_pairs f n ks
        ∙ same_but_one f g k (take n ks) (λ x other. sym (index_of_others (suc n) past k x other)) (unused_among_first k n ks unused))
        ∙ ap (λ j. (k, j) ∷ with_index g (take n ks)) (here ∙ sym (index_after_miss (suc n) past k miss))
        ∙ ap (with_index g) (sym (held_after_miss n past k unused))

pub no_last : {A : Type 0} (n : ℕ) (es : List A) → slice_get es n ≡ None → length es ≤ n
no_last n [] e = omega arith
no_last zero (x ∷ xs) e = cc
no_last (suc n) (x ∷ xs) e = let r = no_last n xs e in omega (arith, r)

-- the same of a cache of any number of entries but 0
pub hit_at : (c : ℕ) (held : List (ℕ × ℕ)) (past : List ℕ) (k i : ℕ) → 0 < c
    → held ≡ with_index (last_index c past) (held_keys c past) → lookup (eqb k) held ≡ Some i
    → (misses c past k ≡ false) × (Hit i ≡ use_of c past k)
    × (promoted (eqb k) held ≡ with_index (last_index c (k ∷ past)) (held_keys c (k ∷ past)))
hit_at zero held past k i some leads found = absurd (omega (arith, some))
hit_at (suc n) held past k i some leads found = hit_step n held past k i leads found

pub miss_at : (c : ℕ) (held : List (ℕ × ℕ)) (past : List ℕ) (k i : ℕ) → 0 < c
    → held ≡ with_index (last_index c past) (held_keys c past) → lookup (eqb k) held ≡ None
    → (length held < c → i ≡ length held) → (c ≤ length held → (e : ℕ × ℕ) × (last_entry held ≡ Some e) × (i ≡ e.1))
    → (misses c past k ≡ true) × (Miss i ≡ use_of c past k)
    × (put_entries eqb (lru_cache held c) k i ≡ with_index (last_index c (k ∷ past)) (held_keys c (k ∷ past)))
miss_at zero held past k i some leads missing room full = absurd (omega (arith, some))
miss_at (suc n) held past k i some leads missing room full = miss_step n held past k i leads missing room full
