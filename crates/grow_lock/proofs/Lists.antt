-- Lists that begin with one another, and the places of what a list gained.
use Rattle.std.proofs.Common.{◌≡◌, ◌⊎◌, ℕ, suc, ◌+◌, ◌-◌, ◌<◌, ◌≤◌, List, [], ◌∷◌, ◌++◌, length, get_or, sym, refl, ap, ◌∙◌, subst, inl, inr, ⊎_elim, arith, append_assoc, append-nil, length-append, Bool, true, false}
use Rattle.std.specs.Prelude.{nat_lt, Contains, if◌then◌else◌}
use Rattle.std.proofs.lemmas.Bool.{ltb-true, ltb-false}
use Rattle.std.proofs.lemmas.List.FromFn.{length-range_with_len, get_or-range_with_len}
use Rattle.grow_lock.specs.Journal.{StartsWith, longer, added_places}

-- an empty list has no place
pub none_has : (n : ℕ) → Contains [] n → ⊥
none_has n has = let f = has.1 in absurd (omega arith)

module _ {E : Type 0} where
  -- a list begins with itself
  pub starts_itself : (xs : List E) → StartsWith xs xs
  starts_itself xs = ([], sym (append-nil xs))

  -- what begins a beginning begins the list
  pub starts_trans : (xs ys zs : List E) → StartsWith xs ys → StartsWith ys zs → StartsWith xs zs
  starts_trans xs ys zs a b = (b.0 ++ a.0, a.1 ∙ ap (λ l. l ++ a.0) b.1 ∙ append_assoc zs b.0 a.0)

  -- what begins a list is no longer
  pub length_starts : (xs ys : List E) → StartsWith xs ys → length ys ≤ length xs
  length_starts xs ys a = omega (arith, ap length a.1, length-append ys a.0)

  -- the items after the first
  abbrev tail : List E → List E
  tail [] = []
  tail (x ∷ xs) = xs

  -- what begins a list and is as long is the list
  pub starts_whole : (xs ys : List E) → StartsWith xs ys → length xs ≤ length ys → ys ≡ xs
  starts_whole [] [] a le = refl
  starts_whole [] (y ∷ ys) (more, a) le = let f : 0 ≡ suc (length (ys ++ more)) = ap length a in absurd (omega (arith, f))
  starts_whole (x ∷ xs) [] a le = absurd (omega (arith, le))
  starts_whole (x ∷ xs) (y ∷ ys) (more, a) le =
      let same : x ≡ y = ap (λ l. get_or l 0 x) a in
      let r = starts_whole xs ys (more, ap tail a) (omega (arith, le)) in
      λ i. sym same i ∷ r i

  -- of two lists that begin one journal, the longer begins with the shorter
  pub starts_shorter : (journal xs ys : List E) → StartsWith journal xs → StartsWith journal ys → length ys ≤ length xs → StartsWith xs ys
  starts_shorter journal xs [] a b le = (xs, refl)
  starts_shorter journal [] (y ∷ ys) a b le = absurd (omega (arith, le))
  starts_shorter [] (x ∷ xs) (y ∷ ys) (more, a) b le = let f : 0 ≡ suc (length (xs ++ more)) = ap length a in absurd (omega (arith, f))
  starts_shorter (z ∷ zs) (x ∷ xs) (y ∷ ys) (more, a) (more', b) le =
      let same : x ≡ y = sym (ap (λ l. get_or l 0 z) a) ∙ ap (λ l. get_or l 0 z) b in
      let r = starts_shorter zs xs ys (more, ap tail a) (more', ap tail b) (omega (arith, le)) in
      (r.0, λ i. same i ∷ r.1 i)

  -- which of two lists is the longer
  abbrev pub ByLength : List E → List E → Type 0
  ByLength xs ys = ((length xs < length ys) × (longer xs ys ≡ ys)) ⊎ ((length ys ≤ length xs) × (longer xs ys ≡ xs))

  -- the longer list is the second where it is longer, else the first
  pub longer_cases : (xs ys : List E) → ByLength xs ys
  longer_cases xs ys = by_test (nat_lt (length xs) (length ys)) refl
    where
      by_test : (b : Bool) → nat_lt (length xs) (length ys) ≡ b → ByLength xs ys
      by_test true e = inl (ltb-true (length xs) (length ys) e, ap (λ (t : Bool). if t then ys else xs) e)
      by_test false e = inr (ltb-false (length xs) (length ys) e, ap (λ (t : Bool). if t then ys else xs) e)

  -- the longer of two lists that begin one journal begins with both
  pub longer_starts : (journal xs ys : List E) → StartsWith journal xs → StartsWith journal ys → StartsWith (longer xs ys) xs × StartsWith (longer xs ys) ys
  longer_starts journal xs ys a b = ⊎_elim
      (λ (t : (length xs < length ys) × (longer xs ys ≡ ys)). let lt = t.0 in
      (subst (λ l. StartsWith l xs) (sym t.1) (starts_shorter journal ys xs b a (omega arith)), subst (λ l. StartsWith l ys) (sym t.1) (starts_itself ys)))
      (λ (t : (length ys ≤ length xs) × (longer xs ys ≡ xs)).
      (subst (λ l. StartsWith l xs) (sym t.1) (starts_itself xs), subst (λ l. StartsWith l ys) (sym t.1) (starts_shorter journal xs ys a b t.0)))
      (longer_cases xs ys)

  -- the longer of two lists that begin a journal begins it too
  pub starts_longer : (journal xs ys : List E) → StartsWith journal xs → StartsWith journal ys → StartsWith journal (longer xs ys)
  starts_longer journal xs ys a b = ⊎_elim
      (λ (t : (length xs < length ys) × (longer xs ys ≡ ys)). subst (StartsWith journal) (sym t.1) b)
      (λ (t : (length ys ≤ length xs) × (longer xs ys ≡ xs)). subst (StartsWith journal) (sym t.1) a)
      (longer_cases xs ys)

  -- the whole journal is the longer, beside what begins it
  pub longer_first : (xs ys : List E) → StartsWith xs ys → longer xs ys ≡ xs
  longer_first xs ys a = ⊎_elim
      (λ (t : (length xs < length ys) × (longer xs ys ≡ ys)). let lt = t.0 in let le = length_starts xs ys a in absurd (omega arith))
      (λ (t : (length ys ≤ length xs) × (longer xs ys ≡ xs)). t.1)
      (longer_cases xs ys)

  -- and so where the journal is the second
  pub longer_second : (xs ys : List E) → StartsWith ys xs → longer xs ys ≡ ys
  longer_second xs ys a = ⊎_elim
      (λ (t : (length xs < length ys) × (longer xs ys ≡ ys)). t.1)
      (λ (t : (length ys ≤ length xs) × (longer xs ys ≡ xs)). t.1 ∙ starts_whole ys xs a t.0)
      (longer_cases xs ys)

  -- each place that a list gained is past its first entries, and in it
  pub added_places_within : (before list : List E) (n : ℕ) → length before ≤ length list → Contains (added_places before list) n → (length before ≤ n) × (n < length list)
  added_places_within before list n le (k, below, is) =
      let count : ℕ = length list - length before in
      let room : k < count = omega (arith, below, length-range_with_len (length before) count) in
      let at : length before + k ≡ n = sym (get_or-range_with_len (length before) count k n room) ∙ is in
      (omega (arith, at), omega (arith, at, room, le))

  -- and each such place is a place that it gained
  pub added_places_all : (before list : List E) (n : ℕ) → length before ≤ n → n < length list → Contains (added_places before list) n
  added_places_all before list n le lt =
      let count : ℕ = length list - length before in
      let k : ℕ = n - length before in
      let room : k < count = omega (arith, le, lt) in
      (k, omega (arith, room, length-range_with_len (length before) count), get_or-range_with_len (length before) count k n room ∙ omega (arith, le))
