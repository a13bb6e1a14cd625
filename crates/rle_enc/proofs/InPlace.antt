-- Colours that are cut one after the other in their places.
use Rattle.std.proofs.Common.{◌≡◌, ℕ, zero, suc, ◌+◌, ◌<◌, ◌≤◌, List, [], ◌∷◌, length, set, refl, ap, ◌∙◌, arith}
use Rattle.std.specs.Prelude.{get_or}
use Rattle.px_core.specs.declared.depth.Depth.TheVariants.{Bits16}
use Rattle.px_core.specs.Depth.{cut_color, shown_colors}

-- so many at the front are cut
abbrev pub cut_to : ℕ → List ℕ → List ℕ
cut_to zero xs = xs
cut_to (suc k) [] = []
cut_to (suc k) (x ∷ xs) = cut_color x ∷ cut_to k xs

cut_next : (k : ℕ) (xs : List ℕ) → k < length xs → set (cut_to k xs) k (cut_color (get_or (cut_to k xs) k 0)) ≡ cut_to (suc k) xs
cut_next k [] h = absurd (omega (arith, h))
cut_next zero (x ∷ xs) h = refl
cut_next (suc k) (x ∷ xs) h = ap (λ ys. cut_color x ∷ ys) (cut_next k xs (omega (arith, h)))

length-cut_to : (k : ℕ) (xs : List ℕ) → length (cut_to k xs) ≡ length xs
length-cut_to zero xs = refl
length-cut_to (suc k) [] = refl
length-cut_to (suc k) (x ∷ xs) = ap suc (length-cut_to k xs)

-- an item that is there, whatever stands for one that isn't
there : (xs : List ℕ) (k d : ℕ) → k < length xs → get_or xs k d ≡ get_or xs k 0
there [] k d h = absurd (omega (arith, h))
there (x ∷ xs) zero d h = refl
there (x ∷ xs) (suc k) d h = there xs k d (omega (arith, h))

-- the next one is cut
pub cut_step : (k : ℕ) (xs items : List ℕ) (at v : ℕ) → k < length xs → items ≡ cut_to k xs → at ≡ get_or items k at → v ≡ cut_color at → set items k v ≡ cut_to (k + 1) xs
cut_step k xs items at v h e f g =
    let more : suc k ≡ k + 1 = omega arith in
    let long : length items ≡ length xs = ap length e ∙ length-cut_to k xs in
    ap (set items k) (g ∙ ap cut_color (f ∙ there items k at (omega (arith, h, long))))
    ∙ ap (λ ys. set ys k (cut_color (get_or ys k 0))) e ∙ cut_next k xs h ∙ ap (λ n. cut_to n xs) more

pub cut_done : (k : ℕ) (xs : List ℕ) → length xs ≤ k → cut_to k xs ≡ shown_colors Bits16 xs
cut_done zero [] h = refl
cut_done (suc k) [] h = refl
cut_done zero (x ∷ xs) h = absurd (omega (arith, h))
cut_done (suc k) (x ∷ xs) h = ap (λ ys. cut_color x ∷ ys) (cut_done k xs (omega (arith, h)))
