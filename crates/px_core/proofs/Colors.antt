-- Colours by their bound, and lists of them item by item.
use Rattle.std.proofs.Common.{◌≡◌, ℕ, zero, suc, ◌+◌, ◌^◌, ◌<◌, List, [], ◌∷◌, ◌++◌, drop, replicate, refl, arith, true}
use Rattle.std.specs.Prelude.{All}
use Rattle.std.proofs.lemmas.Bool.{and_from, and_parts}
use Rattle.std.proofs.lemmas.Bool.Decides.{nat_tests}
use Rattle.px_core.specs.Colors.{is_color, are_colors}
use Rattle.px_core.specs.Picture.{item, listed}

pub color_is : (color : ℕ) → color < 2 ^ 24 → is_color color ≡ true
color_is color h = grind (arith, nat_tests, h)

pub color_below : (color : ℕ) → is_color color ≡ true → color < 2 ^ 24
color_below color h = grind (arith, nat_tests, h)

pub all_are_colors : (colors : List ℕ) → All (λ color. color < 2 ^ 24) colors → are_colors colors ≡ true
all_are_colors [] h = refl
all_are_colors (color ∷ colors) h = and_from _ _ (color_is color (h 0 0 (omega arith))) (all_are_colors colors (λ k d lt. h (suc k) d (omega (arith, lt))))

pub colors_are_below : (colors : List ℕ) → are_colors colors ≡ true → All (λ color. color < 2 ^ 24) colors
colors_are_below [] h k d lt = absurd (omega (arith, lt))
colors_are_below (color ∷ colors) h zero d lt = color_below color (and_parts (is_color color) (are_colors colors) h).0
colors_are_below (color ∷ colors) h (suc k) d lt = colors_are_below colors (and_parts (is_color color) (are_colors colors) h).1 k d (omega (arith, lt))

pub are_colors-append : (front back : List ℕ) → are_colors front ≡ true → are_colors back ≡ true → are_colors (front ++ back) ≡ true
are_colors-append [] back h k = k
are_colors-append (c ∷ front) back h k = let p = and_parts (is_color c) (are_colors front) h in and_from _ _ p.0 (are_colors-append front back p.1 k)

pub pushed_are_colors : (colors : List ℕ) (color : ℕ) → are_colors colors ≡ true → color < 2 ^ 24 → are_colors (colors ++ color ∷ []) ≡ true
pushed_are_colors colors color h k = are_colors-append colors (color ∷ []) h (and_from _ _ (color_is color k) refl)

pub are_colors-drop : (n : ℕ) (colors : List ℕ) → are_colors colors ≡ true → are_colors (drop n colors) ≡ true
are_colors-drop zero colors h = h
are_colors-drop (suc n) [] h = refl
are_colors-drop (suc n) (color ∷ colors) h = are_colors-drop n colors (and_parts (is_color color) (are_colors colors) h).1

pub replicated_are_colors : (n color : ℕ) → is_color color ≡ true → are_colors (replicate n color) ≡ true
replicated_are_colors zero color h = refl
replicated_are_colors (suc n) color h = and_from _ _ h (replicated_are_colors n color h)

-- an item of a list of colours is a colour, where what stands for a missing one is
pub is_color-item : (colors : List ℕ) (n other : ℕ) → are_colors colors ≡ true → is_color other ≡ true → is_color (item colors n other) ≡ true
is_color-item [] n other h k = k
is_color-item (color ∷ colors) zero other h k = (and_parts (is_color color) (are_colors colors) h).0
is_color-item (color ∷ colors) (suc n) other h k = is_color-item colors n other (and_parts (is_color color) (are_colors colors) h).1 k

pub are_colors-listed : (n i : ℕ) (f : ℕ → ℕ) → ((k : ℕ) → is_color (f k) ≡ true) → are_colors (listed n i f) ≡ true
are_colors-listed zero i f h = refl
are_colors-listed (suc n) i f h = and_from _ _ (h i) (are_colors-listed n (i + 1) f h)
