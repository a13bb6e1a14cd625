-- How many different keys a list has, by its first one and the rest.
use Rattle.std.proofs.Common.{◌≡◌, ◌≢◌, ℕ, zero, suc, ◌+◌, ◌-◌, ◌<◌, eqb, List, [], ◌∷◌, length, take, drop, drop-cons, get_or, map, sym, refl, ap, ◌∙◌, subst, ⊎_elim, arith}
use Rattle.std.specs.Prelude.{Bool, true, false}
use Rattle.std.proofs.lemmas.Bool.Decides.{eqb_tells}
use Rattle.cache_plan.specs.CacheUse.{is_used, other_keys, distinct_keys}
use Rattle.draw_ops.specs.Content.{GlyphOf}
use Rattle.draw_ops.specs.Slots.{Loaded}
use Rattle.frame_rules.specs.Support.{distinct_loads}
use Rattle.cache_plan.proofs.Recency.{NoRepeats, no_repeats, others_of_unused, used_among_distinct}

-- of keys that differ, one less is other than one of them
others_of_used : (k : ℕ) (xs : List ℕ) → NoRepeats xs → is_used k xs ≡ true → suc (length (other_keys k xs)) ≡ length xs
others_of_used k [] n u = cc
others_of_used k (x ∷ xs) n u = ⊎_elim
    (λ (t : (eqb k x ≡ true) × (k ≡ x)). rw t.0 (ap (λ l. suc (length l)) (others_of_unused k xs (subst (λ y. is_used y xs ≡ false) (sym t.1) n.0))))
    (λ (t : (eqb k x ≡ false) × (k ≢ x)). rw t.0 (ap suc (others_of_used k xs n.1 (rw t.0 at u))))
    (eqb_tells k x)

-- a key that is used later isn't counted
pub distinct_again : (k : ℕ) (past : List ℕ) → is_used k past ≡ true → length (distinct_keys (k ∷ past)) ≡ length (distinct_keys past)
distinct_again k past u = others_of_used k (distinct_keys past) (no_repeats past) (used_among_distinct k past ∙ u)

pub distinct_new : (k : ℕ) (past : List ℕ) → is_used k past ≡ false → length (distinct_keys (k ∷ past)) ≡ suc (length (distinct_keys past))
distinct_new k past u = ap (λ l. suc (length l)) (others_of_unused k (distinct_keys past) (used_among_distinct k past ∙ u))

-- ---- the loads of a run, from a place on

rest_taken : {A : Type 0} (l : List A) (n : ℕ) → take (length l - n) (drop n l) ≡ drop n l
rest_taken l zero = let same : length l - 0 ≡ length l = omega arith in ap (λ m. take m l) same ∙ taken_all l
  where
    taken_all : {A : Type 0} (xs : List A) → take (length xs) xs ≡ xs
    taken_all [] = refl
    taken_all (x ∷ xs) = ap (λ ys. x ∷ ys) (taken_all xs)
rest_taken {A} [] (suc n) = none (0 - suc n)
  where
    none : (m : ℕ) → take {A = A} m [] ≡ []
    none zero = refl
    none (suc m) = refl
rest_taken (x ∷ l) (suc n) = let same : suc (length l) - suc n ≡ length l - n = omega arith in ap (λ m. take m (drop n l)) same ∙ rest_taken l n

module _ (gs : List (Loaded GlyphOf)) (at : ℕ) (g : Loaded GlyphOf) (here : at < length gs) (is : g ≡ get_or gs at g) where
  cut : distinct_loads (drop at gs) ≡ length (distinct_keys (g.number ∷ map (λ x. x.number) (drop (at + 1) gs)))
  cut =
      let next : suc at ≡ at + 1 = omega arith in
      ap distinct_loads (drop-cons gs at g here ∙ ap (λ x. x ∷ drop (suc at) gs) (sym is)) ∙ ap (λ n. length (distinct_keys (g.number ∷ map (λ x. x.number) (drop n gs)))) next

  later : (b : Bool) (number : ℕ) → number ≡ g.number → b ≡ is_used number (map (λ x. x.number) (take (length gs - (at + 1)) (drop (at + 1) gs)))
      → is_used g.number (map (λ x. x.number) (drop (at + 1) gs)) ≡ b
  later b number n e = ap (λ ys. is_used g.number (map (λ x. x.number) ys)) (sym (rest_taken gs (at + 1))) ∙ ap (λ m. is_used m (map (λ x. x.number) (take (length gs - (at + 1)) (drop (at + 1) gs)))) (sym n) ∙ sym e

  pub loads_again : (b : Bool) (number count : ℕ) → number ≡ g.number → b ≡ is_used number (map (λ x. x.number) (take (length gs - (at + 1)) (drop (at + 1) gs)))
      → b ≡ true → count + distinct_loads (drop at gs) ≡ distinct_loads gs → count + distinct_loads (drop (at + 1) gs) ≡ distinct_loads gs
  loads_again b number count n e t all =
      ap (λ m. count + m) (sym (cut ∙ distinct_again g.number (map (λ x. x.number) (drop (at + 1) gs)) (later b number n e ∙ t))) ∙ all

  pub loads_new : (b : Bool) (number count : ℕ) → number ≡ g.number → b ≡ is_used number (map (λ x. x.number) (take (length gs - (at + 1)) (drop (at + 1) gs)))
      → b ≡ false → count + distinct_loads (drop at gs) ≡ distinct_loads gs → (count + 1) + distinct_loads (drop (at + 1) gs) ≡ distinct_loads gs
  loads_new b number count n e t all =
      let one = cut ∙ distinct_new g.number (map (λ x. x.number) (drop (at + 1) gs)) (later b number n e ∙ t) in
      omega (arith, one, all)
