-- The keys held are the first of the distinct keys by last use: a list of recency tells which uses miss.
use Rattle.std.proofs.Common.{◌≡◌, ◌≢◌, ℕ, zero, suc, eqb, nat_lt, nat_le, Bool, true, false, ◌&&◌, ◌||◌, not, List, [], ◌∷◌, length, take, sym, refl, ap, ◌∙◌, subst, ⊎_elim, arith}
use Rattle.std.proofs.lemmas.Bool.{eq-eqb, false≢true, lt-ltb}
use Rattle.std.proofs.lemmas.Bool.Decides.{eqb_tells, nat_tests}
use Rattle.cache_plan.specs.CacheUse.{is_used, with_item, other_keys, distinct_keys, uses_since, misses, held_among, held_keys}

-- no key stands twice
abbrev pub NoRepeats : List ℕ → Type 0
NoRepeats [] = Unit {0}
NoRepeats (x ∷ xs) = (is_used x xs ≡ false) × NoRepeats xs

pub not_both : {A : Type 0} (b : Bool) → b ≡ true → b ≡ false → A
not_both b is is_not = absurd (false≢true (sym is_not ∙ is))

pub same_as_itself : (k : ℕ) → eqb k k ≡ true
same_as_itself k = eq-eqb k k refl

pub other_way : (k x : ℕ) → eqb k x ≡ false → eqb x k ≡ false
other_way k x ne = ⊎_elim
    (λ (t : (eqb x k ≡ true) × (x ≡ k)). not_both (eqb k x) (eq-eqb k x (sym t.1)) ne)
    (λ (t : (eqb x k ≡ false) × (x ≢ k)). t.0)
    (eqb_tells x k)

and_false : (b : Bool) → b && false ≡ false
and_false true = refl
and_false false = refl

lt_zero : (a : ℕ) → nat_lt a 0 ≡ false
lt_zero a = grind (arith, nat_tests)

lt_suc : (a b : ℕ) → nat_lt (suc a) (suc b) ≡ nat_lt a b
lt_suc a b = grind (arith, nat_tests)

not_le : (a b : ℕ) → not (nat_le a b) ≡ nat_lt b a
not_le a b = grind (arith, nat_tests)

-- ---- the other keys

pub used_among_others_not : (k : ℕ) (xs : List ℕ) → is_used k (other_keys k xs) ≡ false
used_among_others_not k [] = refl
used_among_others_not k (x ∷ xs) = ⊎_elim
    (λ (t : (eqb k x ≡ true) × (k ≡ x)). rw t.0 (used_among_others_not k xs))
    (λ (t : (eqb k x ≡ false) × (k ≢ x)). rw (t.0, t.0) (used_among_others_not k xs))
    (eqb_tells k x)

pub used_among_others : (k y : ℕ) (xs : List ℕ) → eqb k y ≡ false → is_used k (other_keys y xs) ≡ is_used k xs
used_among_others k y [] ne = refl
used_among_others k y (x ∷ xs) ne = let rest = used_among_others k y xs ne in ⊎_elim
    (λ (t : (eqb y x ≡ true) × (y ≡ x)). rw t.0 (let e : eqb k x ≡ false = subst (λ z. eqb k z ≡ false) t.1 ne in rw e rest))
    (λ (t : (eqb y x ≡ false) × (y ≢ x)). rw t.0 (ap (λ b. eqb k x || b) rest))
    (eqb_tells y x)

pub others_of_unused : (k : ℕ) (xs : List ℕ) → is_used k xs ≡ false → other_keys k xs ≡ xs
others_of_unused k [] u = refl
others_of_unused k (x ∷ xs) u = ⊎_elim
    (λ (t : (eqb k x ≡ true) × (k ≡ x)). let f : true ≡ false = (rw t.0 at u) in cc)
    (λ (t : (eqb k x ≡ false) × (k ≢ x)). rw t.0 (ap (λ l. x ∷ l) (others_of_unused k xs (rw t.0 at u))))
    (eqb_tells k x)

no_repeats_of_others : (k : ℕ) (xs : List ℕ) → NoRepeats xs → NoRepeats (other_keys k xs)
no_repeats_of_others k [] n = tt
no_repeats_of_others k (x ∷ xs) n = ⊎_elim
    (λ (t : (eqb k x ≡ true) × (k ≡ x)). rw t.0 (no_repeats_of_others k xs n.1))
    (λ (t : (eqb k x ≡ false) × (k ≢ x)). rw t.0 (used_among_others x k xs (other_way k x t.0) ∙ n.0, no_repeats_of_others k xs n.1))
    (eqb_tells k x)

pub no_repeats : (past : List ℕ) → NoRepeats (distinct_keys past)
no_repeats [] = tt
no_repeats (x ∷ past) = (used_among_others_not x (distinct_keys past), no_repeats_of_others x (distinct_keys past) (no_repeats past))

-- ---- the distinct keys

since_among_others : (k x : ℕ) (xs : List ℕ) → eqb k x ≡ false → uses_since k (other_keys x xs) ≡ other_keys x (uses_since k xs)
since_among_others k x [] ne = refl
since_among_others k x (y ∷ ys) ne = let rest = since_among_others k x ys ne in ⊎_elim
    (λ (t : (eqb x y ≡ true) × (x ≡ y)). let e : eqb k y ≡ false = subst (λ z. eqb k z ≡ false) t.1 ne in rw (t.0, e, t.0) rest)
    (λ (t : (eqb x y ≡ false) × (x ≢ y)). ⊎_elim
    (λ (u : (eqb k y ≡ true) × (k ≡ y)). rw (t.0, u.0) refl)
    (λ (u : (eqb k y ≡ false) × (k ≢ y)). rw (t.0, u.0, t.0) (ap (λ l. y ∷ l) rest))
    (eqb_tells k y))
    (eqb_tells x y)

pub since_among_distinct : (k : ℕ) (past : List ℕ) → uses_since k (distinct_keys past) ≡ distinct_keys (uses_since k past)
since_among_distinct k [] = refl
since_among_distinct k (x ∷ past) = ⊎_elim
    (λ (t : (eqb k x ≡ true) × (k ≡ x)). rw t.0 refl)
    (λ (t : (eqb k x ≡ false) × (k ≢ x)). rw t.0 (ap (λ l. x ∷ l) (since_among_others k x (distinct_keys past) t.0 ∙ ap (other_keys x) (since_among_distinct k past))))
    (eqb_tells k x)

pub used_among_distinct : (k : ℕ) (past : List ℕ) → is_used k (distinct_keys past) ≡ is_used k past
used_among_distinct k [] = refl
used_among_distinct k (x ∷ past) = ⊎_elim
    (λ (t : (eqb k x ≡ true) × (k ≡ x)). rw t.0 refl)
    (λ (t : (eqb k x ≡ false) × (k ≢ x)). rw t.0 (used_among_others k x (distinct_keys past) t.0 ∙ used_among_distinct k past))
    (eqb_tells k x)

-- a key is among the first of a list where fewer stand before it
used_among_first : (k c : ℕ) (xs : List ℕ) → is_used k (take c xs) ≡ (is_used k xs && nat_lt (length (uses_since k xs)) c)
used_among_first k zero [] = refl
used_among_first k zero (x ∷ xs) = sym (and_false (is_used k (x ∷ xs))) ∙ ap (λ b. is_used k (x ∷ xs) && b) (sym (lt_zero (length (uses_since k (x ∷ xs)))))
used_among_first k (suc c) [] = refl
used_among_first k (suc c) (x ∷ xs) = ⊎_elim
    (λ (t : (eqb k x ≡ true) × (k ≡ x)). rw t.0 (sym (lt-ltb 0 (suc c) (omega arith))))
    (λ (t : (eqb k x ≡ false) × (k ≢ x)). rw t.0 (used_among_first k c xs ∙ ap (λ b. is_used k xs && b) (sym (lt_suc (length (uses_since k xs)) c))))
    (eqb_tells k x)

not_miss : (used : Bool) (c n : ℕ) → not (not used || nat_le c n) ≡ (used && nat_lt n c)
not_miss true c n = not_le c n
not_miss false c n = refl

-- a use doesn't miss exactly where its key is among the keys used last, as many as there are entries
pub hit_is_among_first : (c : ℕ) (past : List ℕ) (k : ℕ) → not (misses c past k) ≡ is_used k (take c (distinct_keys past))
hit_is_among_first c past k =
    not_miss (is_used k past) c (length (distinct_keys (uses_since k past)))
    ∙ (λ j. sym (used_among_distinct k past) j && nat_lt (length (sym (since_among_distinct k past) j)) c)
    ∙ sym (used_among_first k c (distinct_keys past))

used_here : (x : ℕ) (xs : List ℕ) → is_used x (x ∷ xs) ≡ true
used_here x xs = rw (same_as_itself x) refl

used_there : (y x : ℕ) (xs : List ℕ) → is_used y xs ≡ true → is_used y (x ∷ xs) ≡ true
used_there y x xs u = elim (eqb y x) as (λ b. (b || is_used y xs) ≡ true) [ true ↦ refl | false ↦ u ]

abbrev kept : (ℕ → Bool) → List ℕ → List ℕ
kept test [] = []
kept test (k ∷ ks) = with_item (test k) k (kept test ks)

held_is_kept : (c : ℕ) (past ks : List ℕ) → held_among c past ks ≡ kept (λ k. not (misses c past k)) ks
held_is_kept c past [] = refl
held_is_kept c past (k ∷ ks) = ap (with_item (not (misses c past k)) k) (held_is_kept c past ks)

kept_is_first : (test : ℕ → Bool) (c : ℕ) (xs : List ℕ) → NoRepeats xs → ((x : ℕ) → is_used x xs ≡ true → test x ≡ is_used x (take c xs)) → kept test xs ≡ take c xs
kept_is_first test zero [] d same = refl
kept_is_first test (suc c) [] d same = refl
kept_is_first test zero (x ∷ xs) d same = let out : test x ≡ false = same x (used_here x xs) in rw out (kept_is_first test zero xs d.1 (λ y u. same y (used_there y x xs u)))
kept_is_first test (suc c) (x ∷ xs) d same = let within : test x ≡ true = same x (used_here x xs) ∙ used_here x (take c xs) in
    rw within (ap (λ l. x ∷ l) (kept_is_first test c xs d.1 (λ y u. let ne : eqb y x ≡ false = other y u in same y (rw ne u) ∙ rw ne refl)))
  where
    other : (y : ℕ) → is_used y xs ≡ true → eqb y x ≡ false
    other y u = ⊎_elim (λ (t : (eqb y x ≡ true) × (y ≡ x)). not_both (is_used x xs) (subst (λ z. is_used z xs ≡ true) t.1 u) d.0) (λ (t : (eqb y x ≡ false) × (y ≢ x)). t.0) (eqb_tells y x)

-- the keys held are the keys used last, as many as there are entries
pub held_are_first : (c : ℕ) (past : List ℕ) → held_keys c past ≡ take c (distinct_keys past)
held_are_first c past = held_is_kept c past (distinct_keys past)
    ∙ kept_is_first (λ k. not (misses c past k)) c (distinct_keys past) (no_repeats past) (λ x _. hit_is_among_first c past x)
