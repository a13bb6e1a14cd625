-- What a painting makes of one pixel.
use Rattle.std.proofs.Common.{◌≡◌, ℕ, zero, suc, ◌+◌, ◌/◌, ◌%◌, ◌<◌, List, [], ◌∷◌, refl, ap, ◌∙◌, length, arith}
use Rattle.std.specs.Prelude.{pos}
use Rattle.px_core.specs.Picture.{item, Area, Formula, where_chosen, painted_from}

-- the new value of the pixel at place k, by its old one
abbrev pub painted_at : {A : Type 0} → ℕ → Area → Formula A → ℕ → A → A
painted_at w area f k old = where_chosen (area (pos (k % w)) (pos (k / w))) f (pos (k % w)) (pos (k / w)) old

none_below : (k : ℕ) → k < 0 → ⊥
none_below k h = absurd (omega (arith, h))

pub item-painted_from : {A : Type 0} (w i : ℕ) (area : Area) (f : Formula A) (ps : List A) (k : ℕ) (other : A) → k < length ps
    → item (painted_from w i area f ps) k other ≡ painted_at w area f (i + k) (item ps k other)
item-painted_from w i area f [] k other h = absurd (none_below k h)
item-painted_from w i area f (p ∷ ps) zero other h = let same : i ≡ i + 0 = omega arith in ap (λ j. painted_at w area f j p) same
item-painted_from w i area f (p ∷ ps) (suc k) other h =
    let same : (i + 1) + k ≡ i + suc k = omega arith in
    item-painted_from w (i + 1) area f ps k other (omega (arith, h)) ∙ ap (λ j. painted_at w area f j (item ps k other)) same

pub length-painted_from : {A : Type 0} (w i : ℕ) (area : Area) (f : Formula A) (ps : List A) → length (painted_from w i area f ps) ≡ length ps
length-painted_from w i area f [] = refl
length-painted_from w i area f (p ∷ ps) = ap suc (length-painted_from w (i + 1) area f ps)
