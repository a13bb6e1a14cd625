-- Lists: what stands in a longer list, and lists within lists.
use Rattle.std.proofs.Common.{◌≡◌, ℕ, zero, suc, ◌+◌, ◌<◌, List, [], ◌∷◌, ◌++◌, length, refl, ap, ◌∙◌, subst, inl, inr, ⊎_elim, arith, drop, take, get_or, Some, None}
use Rattle.std.specs.Prelude.{Option, slice_get, ⊤, All}
use lib.Seq.{drop-cons, take-suc}
use Rattle.serve_rules.specs.Events.{IsWithin}

module _ {E : Type 0} where
  abbrev OnlyNone : Option E → Type 0
  OnlyNone None = ⊤
  OnlyNone (Some x) = ⊥

  -- what stands in a list stands there in a longer one
  pub got_more : (xs ys : List E) (n : ℕ) (x : E) → slice_get xs n ≡ Some x → slice_get (xs ++ ys) n ≡ Some x
  got_more [] ys n x e = absurd (subst OnlyNone e tt)
  got_more (y ∷ xs) ys zero x e = e
  got_more (y ∷ xs) ys (suc n) x e = got_more xs ys n x e

  -- an item that is appended stands at the list's old length
  pub got_end : (xs : List E) (x : E) → slice_get (xs ++ x ∷ []) (length xs) ≡ Some x
  got_end [] x = refl
  got_end (y ∷ xs) x = got_end xs x

-- what stands within a list stands within a longer one, whatever comes before or after
pub within_front : (zs xs ys : List ℕ) → IsWithin xs ys → IsWithin xs (zs ++ ys)
within_front zs [] ys h = tt
within_front [] (x ∷ xs) ys h = h
within_front (z ∷ zs) (x ∷ xs) ys h = inr (within_front zs (x ∷ xs) ys h)

pub within_back : (zs xs ys : List ℕ) → IsWithin xs ys → IsWithin xs (ys ++ zs)
within_back zs [] ys h = tt
within_back zs (x ∷ xs) [] h = absurd h
within_back zs (x ∷ xs) (y ∷ ys) h = ⊎_elim (λ l. inl (l.0, within_back zs xs ys l.1)) (λ r. inr (within_back zs (x ∷ xs) ys r)) h

-- two lists, one after the other
pub within_then : (xs ys xs' ys' : List ℕ) → IsWithin xs ys → IsWithin xs' ys' → IsWithin (xs ++ xs') (ys ++ ys')
within_then [] ys xs' ys' h h' = within_front ys xs' ys' h'
within_then (x ∷ xs) [] xs' ys' h h' = absurd h
within_then (x ∷ xs) (y ∷ ys) xs' ys' h h' = ⊎_elim (λ l. inl (l.0, within_then xs ys xs' ys' l.1 h')) (λ r. inr (within_then (x ∷ xs) ys xs' ys' r h')) h

-- the items from a place on are the one there and those behind it
pub drop_next : {A : Type 0} (l : List A) (i : ℕ) (d : A) → i < length l → drop i l ≡ get_or l i d ∷ drop (i + 1) l
drop_next l i d h = let same : suc i ≡ i + 1 = omega arith in drop-cons l i d h ∙ ap (λ n. get_or l i d ∷ drop n l) same

-- and the items up to it are those before it and the one there
pub take_next : {A : Type 0} (l : List A) (i : ℕ) (d : A) → i < length l → take (i + 1) l ≡ take i l ++ get_or l i d ∷ []
take_next l i d h = let same : i + 1 ≡ suc i = omega arith in ap (λ n. take n l) same ∙ take-suc l i d h

-- a fact of an item is a fact of each item of the list that has it alone
pub all_one : {A : Type 0} (P : A → Type 0) (x : A) → P x → All P (x ∷ [])
all_one P x p zero d lt = p
all_one P x p (suc k) d lt = absurd (omega (arith, lt))
