-- Halves of a share are apart and make it up again; what two shares have together is what each of them has.
use Rattle.std.proofs.Common.{◌≡◌, ◌⊎◌, List, [], ◌∷◌, Bool, true, false, refl, ap, ◌∙◌, inl, inr, ⊎_elim}
use Rattle.std.specs.Prelude.{if◌then◌else◌}
use Rattle.std.proofs.lemmas.Bool.{false≢true}
use Rattle.grow_lock.specs.Shares.{Share, nothing, whole, halves, goes_right, onward, covers, left_half, right_half, both, IsWhole, IsHeld, HoldsShare, AreSharesApart}

-- a choice between two facts on a path, by where it goes
by_way : (b x y x' y' : Bool) → (x ≡ true → x' ≡ true) → (y ≡ true → y' ≡ true) → (if b then x else y) ≡ true → (if b then x' else y') ≡ true
by_way true x y x' y' f g e = f e
by_way false x y x' y' f g e = g e

by_way_either : (b x y x' y' x'' y'' : Bool) → (x ≡ true → (x' ≡ true) ⊎ (x'' ≡ true)) → (y ≡ true → (y' ≡ true) ⊎ (y'' ≡ true)) → (if b then x else y) ≡ true
    → ((if b then x' else y') ≡ true) ⊎ ((if b then x'' else y'') ≡ true)
by_way_either true x y x' y' x'' y'' f g e = f e
by_way_either false x y x' y' x'' y'' f g e = g e

by_way_apart : (b x y x' y' : Bool) → (x ≡ true → x' ≡ true → ⊥) → (y ≡ true → y' ≡ true → ⊥) → (if b then x else y) ≡ true → (if b then x' else y') ≡ true → ⊥
by_way_apart true x y x' y' f g e e' = f e e'
by_way_apart false x y x' y' f g e e' = g e e'

-- a half is within the share
pub left_within : (s : Share) → HoldsShare s (left_half s)
left_within nothing p e = e
left_within whole p e = refl
left_within (halves l r) p e = by_way (goes_right p) (covers (left_half r) (onward p)) (covers (left_half l) (onward p)) (covers r (onward p)) (covers l (onward p)) (left_within r (onward p)) (left_within l (onward p)) e

pub right_within : (s : Share) → HoldsShare s (right_half s)
right_within nothing p e = e
right_within whole p e = refl
right_within (halves l r) p e = by_way (goes_right p) (covers (right_half r) (onward p)) (covers (right_half l) (onward p)) (covers r (onward p)) (covers l (onward p)) (right_within r (onward p)) (right_within l (onward p)) e

-- the halves are apart
pub halves_apart : (s : Share) → AreSharesApart (left_half s) (right_half s)
halves_apart nothing p e e' = false≢true e
halves_apart whole p e e' = by_way_apart (goes_right p) false true true false (λ f _. false≢true f) (λ _ f. false≢true f) e e'
halves_apart (halves l r) p e e' = by_way_apart (goes_right p) (covers (left_half r) (onward p)) (covers (left_half l) (onward p)) (covers (right_half r) (onward p)) (covers (right_half l) (onward p))
    (halves_apart r (onward p)) (halves_apart l (onward p)) e e'

-- and each part of the share is in one of them
pub in_a_half : (s : Share) (p : List Bool) → covers s p ≡ true → (covers (left_half s) p ≡ true) ⊎ (covers (right_half s) p ≡ true)
in_a_half nothing p e = inl e
in_a_half whole p e = by_way_either (goes_right p) true true false true true false (λ _. inr refl) (λ _. inl refl) (always (goes_right p))
  where
    always : (b : Bool) → (if b then true else true) ≡ true
    always true = refl
    always false = refl
in_a_half (halves l r) p e = by_way_either (goes_right p) (covers r (onward p)) (covers l (onward p)) (covers (left_half r) (onward p)) (covers (left_half l) (onward p)) (covers (right_half r) (onward p)) (covers (right_half l) (onward p))
    (in_a_half r (onward p)) (in_a_half l (onward p)) e

-- some path is covered on one side
held_by_side : (l r : Share) (b : Bool) (p : List Bool) → (if b then covers r p else covers l p) ≡ true → IsHeld l ⊎ IsHeld r
held_by_side l r true p e = inr (p, e)
held_by_side l r false p e = inl (p, e)

-- the halves of what is something are something
pub left_held : (s : Share) → IsHeld s → IsHeld (left_half s)
left_held nothing (p, e) = absurd (false≢true e)
left_held whole (p, e) = ([], refl)
left_held (halves l r) (p, e) = ⊎_elim (λ (h : IsHeld l). let q = left_held l h in (false ∷ q.0, q.1)) (λ (h : IsHeld r). let q = left_held r h in (true ∷ q.0, q.1)) (held_by_side l r (goes_right p) (onward p) e)

pub right_held : (s : Share) → IsHeld s → IsHeld (right_half s)
right_held nothing (p, e) = absurd (false≢true e)
right_held whole (p, e) = (true ∷ [], refl)
right_held (halves l r) (p, e) = ⊎_elim (λ (h : IsHeld l). let q = right_held l h in (false ∷ q.0, q.1)) (λ (h : IsHeld r). let q = right_held r h in (true ∷ q.0, q.1)) (held_by_side l r (goes_right p) (onward p) e)

-- two shares together have what the first has
pub both_first : (s t : Share) → HoldsShare (both s t) s
both_first nothing t p e = absurd (false≢true e)
both_first whole t p e = refl
both_first (halves l r) nothing p e = e
both_first (halves l r) whole p e = refl
both_first (halves l r) (halves l' r') p e = by_way (goes_right p) (covers r (onward p)) (covers l (onward p)) (covers (both r r') (onward p)) (covers (both l l') (onward p)) (both_first r r' (onward p)) (both_first l l' (onward p)) e

-- and what the second has
pub both_second : (s t : Share) → HoldsShare (both s t) t
both_second nothing t p e = e
both_second whole t p e = refl
both_second (halves l r) nothing p e = absurd (false≢true e)
both_second (halves l r) whole p e = refl
both_second (halves l r) (halves l' r') p e = by_way (goes_right p) (covers r' (onward p)) (covers l' (onward p)) (covers (both r r') (onward p)) (covers (both l l') (onward p)) (both_second r r' (onward p)) (both_second l l' (onward p)) e

-- and nothing else
pub of_both : (s t : Share) (p : List Bool) → covers (both s t) p ≡ true → (covers s p ≡ true) ⊎ (covers t p ≡ true)
of_both nothing t p e = inr e
of_both whole t p e = inl refl
of_both (halves l r) nothing p e = inl e
of_both (halves l r) whole p e = inr refl
of_both (halves l r) (halves l' r') p e = by_way_either (goes_right p) (covers (both r r') (onward p)) (covers (both l l') (onward p)) (covers r (onward p)) (covers l (onward p)) (covers r' (onward p)) (covers l' (onward p))
    (of_both r r' (onward p)) (of_both l l' (onward p)) e

-- who has all of both halves has all of the share
pub both_of_halves : (s t u : Share) → HoldsShare t (left_half s) → HoldsShare u (right_half s) → HoldsShare (both t u) s
both_of_halves s t u a b p e = ⊎_elim (λ (x : covers (left_half s) p ≡ true). both_first t u p (a p x)) (λ (x : covers (right_half s) p ≡ true). both_second t u p (b p x)) (in_a_half s p e)

-- the same, where they meet in the other order
pub both_of_halves_turned : (s t u : Share) → HoldsShare t (left_half s) → HoldsShare u (right_half s) → HoldsShare (both u t) s
both_of_halves_turned s t u a b p e = ⊎_elim (λ (x : covers (left_half s) p ≡ true). both_second u t p (a p x)) (λ (x : covers (right_half s) p ≡ true). both_first u t p (b p x)) (in_a_half s p e)

-- who has all of a share has all of what it has
pub holds_itself : (s : Share) → HoldsShare s s
holds_itself s p e = e

pub holds_trans : (s t u : Share) → HoldsShare s t → HoldsShare t u → HoldsShare s u
holds_trans s t u a b p e = a p (b p e)

-- who has all of the whole has the whole
pub whole_held : (s t : Share) → HoldsShare s t → IsWhole t → IsWhole s
whole_held s t a w p = a p (w p)

-- a share has all of one that it is
pub holds_same : (s t : Share) → s ≡ t → HoldsShare s t
holds_same s t same p e = ap (λ (x : Share). covers x p) same ∙ e

-- who has all of both halves of the whole has the whole
pub whole_of_halves : (w s t : Share) → IsWhole w → HoldsShare s (left_half w) → HoldsShare t (right_half w) → IsWhole (both s t)
whole_of_halves w s t all a b = whole_held (both s t) w (both_of_halves w s t a b) all
