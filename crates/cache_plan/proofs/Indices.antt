-- Keys that are held have indices below the number of entries, and no two the same.
use Rattle.std.proofs.Common.{◌≡◌, ◌≢◌, ℕ, zero, suc, ◌<◌, ◌≤◌, eqb, nat_lt, nat_le, Bool, true, false, ◌||◌, not, List, [], ◌∷◌, length, take, sym, refl, ap, ◌∙◌, subst, ◌⊎◌, inl, inr, ⊎_elim, arith}
use Rattle.std.proofs.lemmas.Bool.{ltb-true, eq-eqb}
use Rattle.std.proofs.lemmas.Bool.Decides.{eqb_tells, nat_tests}
use Rattle.cache_plan.specs.CacheUse.{is_used, other_keys, distinct_keys, misses, held_keys, last_key, oldest_key, new_index, miss_index, index_after, last_index, cache_index}
use Rattle.cache_plan.proofs.Recency.{NoRepeats, not_both, same_as_itself, no_repeats, others_of_unused, held_are_first}
use Rattle.cache_plan.proofs.Steps.{remove_key, unused_among_first, held_is_no_miss, held_after_hit, held_after_miss, index_after_hit, index_after_miss, index_of_others}

-- what holds of the indices of held keys
record Indexed (n : ℕ) (past : List ℕ) : Type 0 where
  pub below : (k : ℕ) → is_used k (held_keys (suc n) past) ≡ true → last_index (suc n) past k < suc n
  pub counted : (k : ℕ) → length (distinct_keys past) ≤ suc n → is_used k (held_keys (suc n) past) ≡ true → last_index (suc n) past k < length (distinct_keys past)
  pub differ : (k j : ℕ) → is_used k (held_keys (suc n) past) ≡ true → is_used j (held_keys (suc n) past) ≡ true
      → last_index (suc n) past k ≡ last_index (suc n) past j → k ≡ j

-- ---- lists

used_first : (k x : ℕ) (xs : List ℕ) → is_used k (x ∷ xs) ≡ true → (k ≡ x) ⊎ ((eqb k x ≡ false) × (is_used k xs ≡ true))
used_first k x xs u = ⊎_elim
    (λ (t : (eqb k x ≡ true) × (k ≡ x)). inl t.1)
    (λ (t : (eqb k x ≡ false) × (k ≢ x)). inr (t.0, (rw t.0 at u)))
    (eqb_tells k x)

used_rest : (k x : ℕ) (xs : List ℕ) → is_used k xs ≡ true → is_used k (x ∷ xs) ≡ true
used_rest k x xs u = or_true (eqb k x) (is_used k xs) u
  where
    or_true : (a b : Bool) → b ≡ true → a || b ≡ true
    or_true true b h = refl
    or_true false b h = h

used_removed : (k x : ℕ) (xs : List ℕ) → is_used k (remove_key x xs) ≡ true → is_used k xs ≡ true
used_removed k x [] u = u
used_removed k x (y ∷ ys) u = ⊎_elim
    (λ (t : (eqb x y ≡ true) × (x ≡ y)). used_rest k y ys (rw t.0 at u))
    (λ (t : (eqb x y ≡ false) × (x ≢ y)). ⊎_elim
    (λ (is : k ≡ y). let e : eqb k y ≡ true = eq-eqb k y is in rw e refl)
    (λ (v : (eqb k y ≡ false) × (is_used k (remove_key x ys) ≡ true)). used_rest k y ys (used_removed k x ys v.1))
    (used_first k y (remove_key x ys) (rw t.0 at u)))
    (eqb_tells x y)

used_taken : (k n : ℕ) (xs : List ℕ) → is_used k (take n xs) ≡ true → is_used k xs ≡ true
used_taken k zero xs u = not_both false u refl
used_taken k (suc n) [] u = u
used_taken k (suc n) (x ∷ xs) u = ⊎_elim
    (λ (is : k ≡ x). let e : eqb k x ≡ true = eq-eqb k x is in rw e refl)
    (λ (v : (eqb k x ≡ false) × (is_used k (take n xs) ≡ true)). used_rest k x xs (used_taken k n xs v.1))
    (used_first k x (take n xs) u)

length_others : (k : ℕ) (xs : List ℕ) → NoRepeats xs → is_used k xs ≡ true → suc (length (other_keys k xs)) ≡ length xs
length_others k [] d u = not_both false u refl
length_others k (x ∷ xs) d u = ⊎_elim
    (λ (t : (eqb k x ≡ true) × (k ≡ x)). rw t.0 (ap (λ l. suc (length l)) (others_of_unused k xs (subst (λ z. is_used z xs ≡ false) (sym t.1) d.0))))
    (λ (t : (eqb k x ≡ false) × (k ≢ x)). rw t.0 (ap suc (length_others k xs d.1 (rw t.0 at u))))
    (eqb_tells k x)

length_others_of_unused : (k : ℕ) (xs : List ℕ) → is_used k xs ≡ false → length (other_keys k xs) ≡ length xs
length_others_of_unused k xs u = ap length (others_of_unused k xs u)

-- the last key of a list of n + 1 isn't among the first n
last_is_not_first : (k n : ℕ) (xs : List ℕ) → NoRepeats xs → length xs ≡ suc n → is_used k (take n xs) ≡ true → k ≢ last_key xs
last_is_not_first k n [] d l u = absurd (omega (arith, l))
last_is_not_first k zero (x ∷ xs) d l u = not_both false u refl
last_is_not_first k (suc n) (x ∷ []) d l u = absurd (omega (arith, l))
last_is_not_first k (suc n) (x ∷ y ∷ ys) d l u = λ e. ⊎_elim
    (λ (is : k ≡ x). not_both (is_used x (y ∷ ys)) (subst (λ z. is_used z (y ∷ ys) ≡ true) (sym e ∙ is) (last_used y ys)) d.0)
    (λ (v : (eqb k x ≡ false) × (is_used k (take n (y ∷ ys)) ≡ true)). last_is_not_first k n (y ∷ ys) d.1 (omega (arith, l)) v.1 e)
    (used_first k x (take n (y ∷ ys)) u)
  where
    last_used : (y : ℕ) (ys : List ℕ) → is_used (last_key (y ∷ ys)) (y ∷ ys) ≡ true
    last_used y [] = rw (same_as_itself y) refl
    last_used y (z ∷ zs) = used_rest (last_key (z ∷ zs)) y (z ∷ zs) (last_used z zs)

-- ---- one more use

take_full : (c : ℕ) (xs : List ℕ) → c ≤ length xs → length (take c xs) ≡ c
take_full zero xs l = refl
take_full (suc c) [] l = absurd (omega (arith, l))
take_full (suc c) (x ∷ xs) l = ap suc (take_full c xs (omega (arith, l)))

take_whole : (c : ℕ) (xs : List ℕ) → length xs ≤ c → take c xs ≡ xs
take_whole zero [] l = refl
take_whole zero (x ∷ xs) l = absurd (omega (arith, l))
take_whole (suc c) [] l = refl
take_whole (suc c) (x ∷ xs) l = ap (λ z. x ∷ z) (take_whole c xs (omega (arith, l)))

last_used : (y : ℕ) (ys : List ℕ) → is_used (last_key (y ∷ ys)) (y ∷ ys) ≡ true
last_used y [] = rw (same_as_itself y) refl
last_used y (z ∷ zs) = used_rest (last_key (z ∷ zs)) y (z ∷ zs) (last_used z zs)

last_of_some : (n : ℕ) (xs : List ℕ) → length xs ≡ suc n → is_used (last_key xs) xs ≡ true
last_of_some n [] l = absurd (omega (arith, l))
last_of_some n (x ∷ xs) l = last_used x xs

no_repeats_first : (c : ℕ) (xs : List ℕ) → NoRepeats xs → NoRepeats (take c xs)
no_repeats_first zero xs d = tt
no_repeats_first (suc c) [] d = tt
no_repeats_first (suc c) (x ∷ xs) d = (unused_among_first x c xs d.0, no_repeats_first c xs d.1)

after_hit : (n x : ℕ) (past : List ℕ) → misses (suc n) past x ≡ false → Indexed n past → Indexed n (x ∷ past)
after_hit n x past hit old = record {
  below = λ k u. subst (λ i. i < suc n) (sym (index_after_hit (suc n) past x k hit)) (old.below k (was k u));
  counted = λ k l u. subst (λ i. i < length (distinct_keys (x ∷ past))) (sym (index_after_hit (suc n) past x k hit))
      (subst (λ m. last_index (suc n) past k < m) (sym same_length) (old.counted k (subst (λ m. m ≤ suc n) same_length l) (was k u)));
  differ = λ k j u v e. old.differ k j (was k u) (was j v) (sym (index_after_hit (suc n) past x k hit) ∙ e ∙ index_after_hit (suc n) past x j hit);
}
  where
    held : is_used x (held_keys (suc n) past) ≡ true
    held = held_is_no_miss (suc n) past x ∙ ap not hit

    same_length : length (distinct_keys (x ∷ past)) ≡ length (distinct_keys past)
    same_length = length_others x (distinct_keys past) (no_repeats past) (used_taken x (suc n) (distinct_keys past) (sym (ap (is_used x) (held_are_first (suc n) past)) ∙ held))

    was : (k : ℕ) → is_used k (held_keys (suc n) (x ∷ past)) ≡ true → is_used k (held_keys (suc n) past) ≡ true
    was k u = ⊎_elim
        (λ (is : k ≡ x). ap (λ z. is_used z (held_keys (suc n) past)) is ∙ held)
        (λ (v : (eqb k x ≡ false) × (is_used k (remove_key x (held_keys (suc n) past)) ≡ true)). used_removed k x (held_keys (suc n) past) v.1)
        (used_first k x (remove_key x (held_keys (suc n) past)) (sym (ap (is_used k) (held_after_hit n past x held)) ∙ u))

-- after a miss, by what its index is beside those of the keys that stay held
after_miss : (n x : ℕ) (past : List ℕ) → misses (suc n) past x ≡ true → Indexed n past
    → miss_index (suc n) past (last_index (suc n) past) < suc n
    → (length (distinct_keys (x ∷ past)) ≤ suc n → (i : ℕ) → (i ≡ miss_index (suc n) past (last_index (suc n) past)) ⊎ ((k : ℕ) × (is_used k (held_keys (suc n) past) ≡ true) × (i ≡ last_index (suc n) past k)) → i < length (distinct_keys (x ∷ past)))
    → ((k : ℕ) → is_used k (take n (held_keys (suc n) past)) ≡ true → last_index (suc n) past k ≢ miss_index (suc n) past (last_index (suc n) past))
    → Indexed n (x ∷ past)
after_miss n x past miss old small count new = record {
  below = λ k u. ⊎_elim
      (λ (is : k ≡ x). subst (λ i. i < suc n) (sym (own k is)) small)
      (λ (v : (eqb k x ≡ false) × (is_used k (take n (held_keys (suc n) past)) ≡ true)). subst (λ i. i < suc n) (sym (index_of_others (suc n) past x k v.0)) (old.below k (used_taken k n (held_keys (suc n) past) v.1)))
      (either k u);
  counted = λ k l u. count l (last_index (suc n) (x ∷ past) k) (⊎_elim
      (λ (is : k ≡ x). inl (own k is))
      (λ (v : (eqb k x ≡ false) × (is_used k (take n (held_keys (suc n) past)) ≡ true)). inr (k, used_taken k n (held_keys (suc n) past) v.1, index_of_others (suc n) past x k v.0))
      (either k u));
  differ = λ k j u v e. ⊎_elim
      (λ (k_is : k ≡ x). ⊎_elim
      (λ (j_is : j ≡ x). k_is ∙ sym j_is)
      (λ (w : (eqb j x ≡ false) × (is_used j (take n (held_keys (suc n) past)) ≡ true)). absurd (new j w.1 (sym (index_of_others (suc n) past x j w.0) ∙ sym e ∙ own k k_is)))
      (either j v))
      (λ (w : (eqb k x ≡ false) × (is_used k (take n (held_keys (suc n) past)) ≡ true)). ⊎_elim
      (λ (j_is : j ≡ x). absurd (new k w.1 (sym (index_of_others (suc n) past x k w.0) ∙ e ∙ own j j_is)))
      (λ (z : (eqb j x ≡ false) × (is_used j (take n (held_keys (suc n) past)) ≡ true)). old.differ k j (used_taken k n (held_keys (suc n) past) w.1) (used_taken j n (held_keys (suc n) past) z.1)
      (sym (index_of_others (suc n) past x k w.0) ∙ e ∙ index_of_others (suc n) past x j z.0))
      (either j v))
      (either k u);
}
  where
    unused : is_used x (held_keys (suc n) past) ≡ false
    unused = held_is_no_miss (suc n) past x ∙ ap not miss

    own : (k : ℕ) → k ≡ x → last_index (suc n) (x ∷ past) k ≡ miss_index (suc n) past (last_index (suc n) past)
    own k is = ap (last_index (suc n) (x ∷ past)) is ∙ index_after_miss (suc n) past x miss

    either : (k : ℕ) → is_used k (held_keys (suc n) (x ∷ past)) ≡ true → (k ≡ x) ⊎ ((eqb k x ≡ false) × (is_used k (take n (held_keys (suc n) past)) ≡ true))
    either k u = used_first k x (take n (held_keys (suc n) past)) (sym (ap (is_used k) (held_after_miss n past x unused)) ∙ u)

after_miss_with_room : (n x : ℕ) (past : List ℕ) → misses (suc n) past x ≡ true → nat_lt (length (distinct_keys past)) (suc n) ≡ true → Indexed n past → Indexed n (x ∷ past)
after_miss_with_room n x past miss room old = after_miss n x past miss old
    (subst (λ i. i < suc n) (sym is) few)
    (λ l i among. subst (λ m. i < m) (sym more) (⊎_elim
    (λ (own : i ≡ miss_index (suc n) past (last_index (suc n) past)). let e = own ∙ is in omega (arith, e))
    (λ (other : (k : ℕ) × (is_used k (held_keys (suc n) past) ≡ true) × (i ≡ last_index (suc n) past k)). let b = old.counted other.0 (omega (arith, few)) other.1 in omega (arith, b, other.2))
    among))
    (λ k u e. let b = old.counted k (omega (arith, few)) (used_taken k n (held_keys (suc n) past) u) in absurd (omega (arith, b, e ∙ is)))
  where
    few : length (distinct_keys past) < suc n
    few = ltb-true (length (distinct_keys past)) (suc n) room

    is : miss_index (suc n) past (last_index (suc n) past) ≡ length (distinct_keys past)
    is = ap (λ b. new_index b (length (distinct_keys past)) (last_index (suc n) past) (oldest_key (suc n) past)) room

    whole : held_keys (suc n) past ≡ distinct_keys past
    whole = held_are_first (suc n) past ∙ take_whole (suc n) (distinct_keys past) (omega (arith, few))

    more : length (distinct_keys (x ∷ past)) ≡ suc (length (distinct_keys past))
    more = ap suc (length_others_of_unused x (distinct_keys past) (sym (ap (is_used x) whole) ∙ held_is_no_miss (suc n) past x ∙ ap not miss))

after_miss_of_full : (n x : ℕ) (past : List ℕ) → misses (suc n) past x ≡ true → nat_lt (length (distinct_keys past)) (suc n) ≡ false → Indexed n past → Indexed n (x ∷ past)
after_miss_of_full n x past miss full old = after_miss n x past miss old
    (subst (λ i. i < suc n) (sym is) (old.below (oldest_key (suc n) past) oldest))
    (λ l i among. ⊎_elim
    (λ (own : i ≡ miss_index (suc n) past (last_index (suc n) past)). let b = old.below (oldest_key (suc n) past) oldest in omega (arith, b, own ∙ is, as_many))
    (λ (other : (k : ℕ) × (is_used k (held_keys (suc n) past) ≡ true) × (i ≡ last_index (suc n) past k)). let b = old.below other.0 other.1 in omega (arith, b, other.2, as_many))
    among)
    (λ k u e. last_is_not_first k n (held_keys (suc n) past) distinct long u
    (old.differ k (oldest_key (suc n) past) (used_taken k n (held_keys (suc n) past) u) oldest (e ∙ is)))
  where
    not_lt : (a b : ℕ) → nat_lt a b ≡ false → b ≤ a
    not_lt a b h = grind (arith, nat_tests)

    many : suc n ≤ length (distinct_keys past)
    many = not_lt (length (distinct_keys past)) (suc n) full

    is : miss_index (suc n) past (last_index (suc n) past) ≡ last_index (suc n) past (oldest_key (suc n) past)
    is = ap (λ b. new_index b (length (distinct_keys past)) (last_index (suc n) past) (oldest_key (suc n) past)) full

    long : length (held_keys (suc n) past) ≡ suc n
    long = ap length (held_are_first (suc n) past) ∙ take_full (suc n) (distinct_keys past) many

    distinct : NoRepeats (held_keys (suc n) past)
    distinct = subst NoRepeats (sym (held_are_first (suc n) past)) (no_repeats_first (suc n) (distinct_keys past) (no_repeats past))

    oldest : is_used (oldest_key (suc n) past) (held_keys (suc n) past) ≡ true
    oldest = last_of_some n (held_keys (suc n) past) long

    or_more : (b : Bool) → is_used x (distinct_keys past) ≡ b → length (distinct_keys past) ≤ length (distinct_keys (x ∷ past))
    or_more true u = let e = length_others x (distinct_keys past) (no_repeats past) u in omega (arith, e)
    or_more false u = let e = length_others_of_unused x (distinct_keys past) u in omega (arith, e)

    as_many : suc n ≤ length (distinct_keys (x ∷ past))
    as_many = let more = or_more (is_used x (distinct_keys past)) refl in omega (arith, more, many)

indexed : (n : ℕ) (past : List ℕ) → Indexed n past
indexed n [] = record { below = λ k u. not_both false u refl; counted = λ k l u. not_both false u refl; differ = λ k j u v e. not_both false u refl }
indexed n (x ∷ past) = by_kind (indexed n past) (misses (suc n) past x) refl (nat_lt (length (distinct_keys past)) (suc n)) refl
  where
    by_kind : Indexed n past → (miss : Bool) → misses (suc n) past x ≡ miss → (room : Bool) → nat_lt (length (distinct_keys past)) (suc n) ≡ room → Indexed n (x ∷ past)
    by_kind old false m room r = after_hit n x past m old
    by_kind old true m true r = after_miss_with_room n x past m r old
    by_kind old true m false r = after_miss_of_full n x past m r old

-- ---- for callers

-- the index of a held key is one of the entries
pub held_index_below : (c : ℕ) (past : List ℕ) (k : ℕ) → 0 < c → misses c past k ≡ false → last_index c past k < c
held_index_below zero past k some hit = absurd (omega (arith, some))
held_index_below (suc n) past k some hit = (indexed n past).below k (held_is_no_miss (suc n) past k ∙ ap not hit)

-- two held keys have two indices
pub held_indices_differ : (c : ℕ) (past : List ℕ) (k j : ℕ) → 0 < c → misses c past k ≡ false → misses c past j ≡ false
    → last_index c past k ≡ last_index c past j → k ≡ j
held_indices_differ zero past k j some hit hit' same = absurd (omega (arith, some))
held_indices_differ (suc n) past k j some hit hit' same = (indexed n past).differ k j (held_is_no_miss (suc n) past k ∙ ap not hit) (held_is_no_miss (suc n) past j ∙ ap not hit') same

-- a key that was just used is held
pub held_after_use : (c : ℕ) (past : List ℕ) (k : ℕ) → 0 < c → misses c (k ∷ past) k ≡ false
held_after_use c past k some = let same = same_as_itself k in let over : nat_le c 0 ≡ false = grind (arith, nat_tests) in rw same over

-- the index of a use is that of its key after it
pub index_of_use : (c : ℕ) (past : List ℕ) (k : ℕ) → cache_index c past k ≡ last_index c (k ∷ past) k
index_of_use c past k = by_kind (misses c past k) refl
  where
    by_kind : (miss : Bool) → misses c past k ≡ miss → index_after (misses c past k) c past (last_index c past) k ≡ last_index c (k ∷ past) k
    by_kind true m = ap (λ b. index_after b c past (last_index c past) k) m ∙ sym (index_after_miss c past k m)
    by_kind false m = ap (λ b. index_after b c past (last_index c past) k) m ∙ sym (index_after_hit c past k k m)

-- and one of the entries
pub cache_index_below : (c : ℕ) (past : List ℕ) (k : ℕ) → 0 < c → cache_index c past k < c
cache_index_below c past k some = subst (λ i. i < c) (sym (index_of_use c past k)) (held_index_below c (k ∷ past) k some (held_after_use c past k some))
