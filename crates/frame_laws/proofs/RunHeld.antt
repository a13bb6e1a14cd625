-- A run of uses with no more different keys than a cache has entries: after it each of its keys is held, at the index that its use had.
use Rattle.std.proofs.Common.{◌≡◌, ◌≢◌, ℕ, suc, ◌≤◌, eqb, List, [], ◌∷◌, ◌++◌, length, append_assoc, refl, ap, sym, ◌∙◌, subst, arith, ◌⊎◌, inl, inr, ⊎_elim}
use Rattle.std.specs.Prelude.{Bool, true, false, nat_le, ◌||◌, not}
use Rattle.std.proofs.lemmas.Bool.Decides.{eqb_tells, nat_tests}
use Rattle.cache_plan.specs.CacheUse.{is_used, other_keys, distinct_keys, since_use, uses_since, misses, last_index}
use Rattle.cache_plan.proofs.Recency.{NoRepeats, no_repeats, used_among_distinct, used_among_others, same_as_itself}
use Rattle.cache_plan.proofs.Steps.{index_after_hit, index_of_others}

-- a history after a run
abbrev pub run_past : List ℕ → List ℕ → List ℕ
run_past [] past = past
run_past (k ∷ ks) past = run_past ks (k ∷ past)

-- ---- counting

or_true : (a b : Bool) → b ≡ true → (a || b) ≡ true
or_true true b h = refl
or_true false b h = h

others_few : (k : ℕ) (xs : List ℕ) → is_used k xs ≡ true → suc (length (other_keys k xs)) ≤ length xs
others_few k [] u = absurd (cc u)
others_few k (x ∷ xs) u = ⊎_elim
    (λ (t : (eqb k x ≡ true) × (k ≡ x)). let least = no_more k xs in rw t.0 (omega (arith, least)))
    (λ (t : (eqb k x ≡ false) × (k ≢ x)). let more = others_few k xs (rw t.0 at u) in rw t.0 (omega (arith, more)))
    (eqb_tells k x)
  where
    no_more : (k : ℕ) (xs : List ℕ) → length (other_keys k xs) ≤ length xs
    no_more k [] = omega arith
    no_more k (x ∷ xs) = ⊎_elim
        (λ (t : (eqb k x ≡ true) × (k ≡ x)). let m = no_more k xs in rw t.0 (omega (arith, m)))
        (λ (t : (eqb k x ≡ false) × (k ≢ x)). let m = no_more k xs in rw t.0 (omega (arith, m)))
        (eqb_tells k x)

-- keys without repeats that are all among others are at most as many
few_within : (xs ys : List ℕ) → NoRepeats xs → ((k : ℕ) → is_used k xs ≡ true → is_used k ys ≡ true) → length xs ≤ length ys
few_within [] ys n h = omega arith
few_within (x ∷ xs) ys n h =
    let here : is_used x ys ≡ true = h x (let same = same_as_itself x in rw same refl) in
    let rest = few_within xs (other_keys x ys) n.1 (λ k u. by k u (eqb_tells k x)) in
    let fewer = others_few x ys here in
    omega (arith, rest, fewer)
  where
    by : (k : ℕ) → is_used k xs ≡ true → ((eqb k x ≡ true) × (k ≡ x)) ⊎ ((eqb k x ≡ false) × (k ≢ x)) → is_used k (other_keys x ys) ≡ true
    by k u (inl t) = absurd (cc (sym u ∙ subst (λ z. is_used z xs ≡ false) (sym t.1) n.0))
    by k u (inr t) = used_among_others k x ys t.0 ∙ h k (or_true (eqb k x) (is_used k xs) u)

-- ---- what was used since a key of the run

since_not : (k : ℕ) (past : List ℕ) → is_used k (uses_since k past) ≡ false
since_not k [] = refl
since_not k (x ∷ past) = ⊎_elim
    (λ (t : (eqb k x ≡ true) × (k ≡ x)). rw t.0 refl)
    (λ (t : (eqb k x ≡ false) × (k ≢ x)). rw (t.0, t.0) (since_not k past))
    (eqb_tells k x)

used_run : (k : ℕ) (ks past : List ℕ) → is_used k past ≡ true → is_used k (run_past ks past) ≡ true
used_run k [] past h = h
used_run k (y ∷ ks) past h = used_run k ks (y ∷ past) (or_true (eqb k y) (is_used k past) h)

pub used_in_run : (k : ℕ) (ks past : List ℕ) → is_used k ks ≡ true → is_used k (run_past ks past) ≡ true
used_in_run k [] past h = absurd (cc h)
used_in_run k (y ∷ ks) past h = ⊎_elim
    (λ (t : (eqb k y ≡ true) × (k ≡ y)). used_run k ks (y ∷ past) (rw t.0 refl))
    (λ (t : (eqb k y ≡ false) × (k ≢ y)). used_in_run k ks (y ∷ past) (rw t.0 at h))
    (eqb_tells k y)

-- all used since k stays among some keys, over a run of such keys
since_stays : (k : ℕ) (ks past all : List ℕ) → ((x : ℕ) → is_used x (uses_since k past) ≡ true → is_used x all ≡ true)
    → ((x : ℕ) → is_used x ks ≡ true → is_used x all ≡ true)
    → (x : ℕ) → is_used x (uses_since k (run_past ks past)) ≡ true → is_used x all ≡ true
since_stays k [] past all h g x u = h x u
since_stays k (y ∷ ks) past all h g x u = since_stays k ks (y ∷ past) all (λ z v. by z v (eqb_tells k y)) (λ z v. g z (or_true (eqb z y) (is_used z ks) v)) x u
  where
    here : (z : ℕ) → ((eqb z y ≡ true) × (z ≡ y)) ⊎ ((eqb z y ≡ false) × (z ≢ y)) → is_used z (y ∷ uses_since k past) ≡ true → is_used z all ≡ true
    here z (inl t) v = g z (rw t.0 refl)
    here z (inr t) v = h z (rw t.0 at v)

    by : (z : ℕ) → is_used z (uses_since k (y ∷ past)) ≡ true → ((eqb k y ≡ true) × (k ≡ y)) ⊎ ((eqb k y ≡ false) × (k ≢ y)) → is_used z all ≡ true
    by z v (inl t) = absurd (cc (ap (λ b. is_used z (since_use b y (uses_since k past))) (sym t.0) ∙ v))
    by z v (inr t) = here z (eqb_tells z y) (ap (λ b. is_used z (since_use b y (uses_since k past))) (sym t.0) ∙ v)

since_within : (k : ℕ) (ks past : List ℕ) → is_used k ks ≡ true → (x : ℕ) → is_used x (uses_since k (run_past ks past)) ≡ true → is_used x ks ≡ true
since_within k [] past h x u = absurd (cc h)
since_within k (y ∷ ks) past h x u = by (eqb_tells k y) (λ more. since_within k ks (y ∷ past) more x u)
  where
    by : ((eqb k y ≡ true) × (k ≡ y)) ⊎ ((eqb k y ≡ false) × (k ≢ y)) → (is_used k ks ≡ true → is_used x ks ≡ true) → is_used x (y ∷ ks) ≡ true
    by (inl t) rest = or_true (eqb x y) (is_used x ks)
        (since_stays k ks (y ∷ past) ks (λ z v. absurd (cc (ap (λ b. is_used z (since_use b y (uses_since k past))) (sym t.0) ∙ v))) (λ z v. v) x u)
    by (inr t) rest = or_true (eqb x y) (is_used x ks) (rest (rw t.0 at h))

-- ---- after the run

-- each key of the run is held
pub held_in_run : (c k : ℕ) (ks past : List ℕ) → is_used k ks ≡ true → length (distinct_keys ks) ≤ c → misses c (run_past ks past) k ≡ false
held_in_run c k ks past h few =
    let P = run_past ks past in
    let since = uses_since k P in
    let fresh : NoRepeats (k ∷ distinct_keys since) = (used_among_distinct k since ∙ since_not k P, no_repeats since) in
    let count = few_within (k ∷ distinct_keys since) (distinct_keys ks) fresh (λ x u. used_among_distinct x ks ∙ by x u (eqb_tells x k)) in
    let small : nat_le c (length (distinct_keys since)) ≡ false = grind (arith, nat_tests, few, count) in
    let used = used_in_run k ks past h in
    ap (λ b. not b || nat_le c (length (distinct_keys since))) used ∙ small
  where
    by : (x : ℕ) → is_used x (k ∷ distinct_keys (uses_since k (run_past ks past))) ≡ true → ((eqb x k ≡ true) × (x ≡ k)) ⊎ ((eqb x k ≡ false) × (x ≢ k))
        → is_used x ks ≡ true
    by x u (inl t) = subst (λ z. is_used z ks ≡ true) (sym t.1) h
    by x u (inr t) = since_within k ks past h x (sym (used_among_distinct x (uses_since k (run_past ks past))) ∙ (rw t.0 at u))

run_past-append : (xs ys past : List ℕ) → run_past (xs ++ ys) past ≡ run_past ys (run_past xs past)
run_past-append [] ys past = refl
run_past-append (x ∷ xs) ys past = run_past-append xs ys (x ∷ past)

used_append : (k : ℕ) (xs ys : List ℕ) → is_used k xs ≡ true → is_used k (xs ++ ys) ≡ true
used_append k [] ys h = absurd (cc h)
used_append k (x ∷ xs) ys h = ⊎_elim
    (λ (t : (eqb k x ≡ true) × (k ≡ x)). rw t.0 refl)
    (λ (t : (eqb k x ≡ false) × (k ≢ x)). rw t.0 (used_append k xs ys (rw t.0 at h)))
    (eqb_tells k x)

-- fewer keys have fewer different ones
front_few : (xs ys : List ℕ) → length (distinct_keys xs) ≤ length (distinct_keys (xs ++ ys))
front_few xs ys = few_within (distinct_keys xs) (distinct_keys (xs ++ ys)) (no_repeats xs)
    (λ k u. used_among_distinct k (xs ++ ys) ∙ used_append k xs ys (sym (used_among_distinct k xs) ∙ u))

-- a key that the run has used keeps its index over the rest of the run
pub index_kept : (c k : ℕ) (before ks past : List ℕ) → is_used k before ≡ true → length (distinct_keys (before ++ ks)) ≤ c
    → last_index c (run_past ks (run_past before past)) k ≡ last_index c (run_past before past) k
index_kept c k before [] past used few = refl
index_kept c k before (y ∷ ks) past used few =
    let so_far : length (distinct_keys before) ≤ c = let f = front_few before (y ∷ ks) in omega (arith, f, few) in
    let more : (before ++ y ∷ []) ++ ks ≡ before ++ y ∷ ks = append_assoc before (y ∷ []) ks in
    let next : run_past (before ++ y ∷ []) past ≡ y ∷ run_past before past = run_past-append before (y ∷ []) past in
    let rest = index_kept c k (before ++ y ∷ []) ks past (used_append k before (y ∷ []) used) (subst (λ l. length (distinct_keys l) ≤ c) (sym more) few) in
    ap (λ l. last_index c (run_past ks l) k) (sym next) ∙ (rest ∙ (ap (λ l. last_index c l k) next ∙ by so_far (eqb_tells k y)))
  where
    by : length (distinct_keys before) ≤ c → ((eqb k y ≡ true) × (k ≡ y)) ⊎ ((eqb k y ≡ false) × (k ≢ y))
        → last_index c (y ∷ run_past before past) k ≡ last_index c (run_past before past) k
    by few (inl t) = index_after_hit c (run_past before past) y k
        (subst (λ z. misses c (run_past before past) z ≡ false) t.1 (held_in_run c k before past used few))
    by few (inr t) = index_of_others c (run_past before past) y k t.0
