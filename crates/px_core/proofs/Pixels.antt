-- Pixels of a depth that are written are read back.
use Rattle.std.proofs.Common.{◌≡◌, ℕ, zero, suc, ◌*◌, ◌<◌, List, [], ◌∷◌, length, refl, ap, ◌∙◌, arith, true}
use Rattle.std.specs.Prelude.{◌&&◌}
use Rattle.std.proofs.lemmas.Bool.{and_from, and_parts}
use Rattle.std.proofs.lemmas.Bool.Decides.{nat_tests}
use Rattle.wire_num.specs.Number.{little_value}
use Rattle.px_core.specs.declared.depth.Depth.{Depth}
use Rattle.px_core.specs.declared.depth.Depth.TheVariants.{Bits24, Bits16}
use Rattle.px_core.specs.Colors.{is_color, are_colors}
use Rattle.px_core.specs.Depth.{bytes_in, shown, shown_colors}
use Rattle.px_core.specs.Pixels.{pixel_bytes, pixels_bytes, pixels_of, pixels_of_2, pixels_of_3, is_pixel, are_pixels}
use Rattle.px_core.proofs.Colors.{color_below}
use Rattle.px_core.proofs.Cut.{cut_below}

pub length-pixel_bytes : (d : Depth) (c : ℕ) → length (pixel_bytes d c) ≡ bytes_in d
length-pixel_bytes Bits24 c = refl
length-pixel_bytes Bits16 c = refl

length-pixels_of_3 : (n : ℕ) (bs : List ℕ) → length bs ≡ 3 * n → length (pixels_of_3 bs) ≡ n
length-pixels_of_3 zero [] e = refl
length-pixels_of_3 zero (b ∷ bs) e = absurd (omega (arith, e))
length-pixels_of_3 (suc n) [] e = absurd (omega (arith, e))
length-pixels_of_3 (suc n) (b ∷ []) e = absurd (omega (arith, e))
length-pixels_of_3 (suc n) (b ∷ g ∷ []) e = absurd (omega (arith, e))
length-pixels_of_3 (suc n) (b ∷ g ∷ r ∷ bs) e = let f : length bs ≡ 3 * n = omega (arith, e) in ap suc (length-pixels_of_3 n bs f)

length-pixels_of_2 : (n : ℕ) (bs : List ℕ) → length bs ≡ 2 * n → length (pixels_of_2 bs) ≡ n
length-pixels_of_2 zero [] e = refl
length-pixels_of_2 zero (b ∷ bs) e = absurd (omega (arith, e))
length-pixels_of_2 (suc n) [] e = absurd (omega (arith, e))
length-pixels_of_2 (suc n) (b ∷ []) e = absurd (omega (arith, e))
length-pixels_of_2 (suc n) (b ∷ g ∷ bs) e = let f : length bs ≡ 2 * n = omega (arith, e) in ap suc (length-pixels_of_2 n bs f)

pub length-pixels_of : (d : Depth) (n : ℕ) (bs : List ℕ) → length bs ≡ bytes_in d * n → length (pixels_of d bs) ≡ n
length-pixels_of Bits24 n bs e = length-pixels_of_3 n bs e
length-pixels_of Bits16 n bs e = length-pixels_of_2 n bs e

pub length-pixels_bytes : (d : Depth) (cs : List ℕ) → length (pixels_bytes d cs) ≡ bytes_in d * length cs
length-pixels_bytes Bits24 [] = refl
length-pixels_bytes Bits16 [] = refl
length-pixels_bytes Bits24 (c ∷ cs) = let more = length-pixels_bytes Bits24 cs in omega (arith, more)
length-pixels_bytes Bits16 (c ∷ cs) = let more = length-pixels_bytes Bits16 cs in omega (arith, more)

pub pixel_back : (d : Depth) (c : ℕ) → is_pixel d c ≡ true → little_value (pixel_bytes d c) ≡ c
pixel_back Bits24 c h = let low : c < 16777216 = grind (arith, nat_tests, h) in omega (arith, low)
pixel_back Bits16 c h = let low : c < 65536 = grind (arith, nat_tests, h) in omega (arith, low)

pub pixels_back : (d : Depth) (cs : List ℕ) → are_pixels d cs ≡ true → pixels_of d (pixels_bytes d cs) ≡ cs
pixels_back Bits24 [] h = refl
pixels_back Bits16 [] h = refl
pixels_back Bits24 (c ∷ cs) h = let p = and_parts (is_pixel Bits24 c) (are_pixels Bits24 cs) h in
    ap (λ x. x ∷ pixels_of Bits24 (pixels_bytes Bits24 cs)) (pixel_back Bits24 c p.0) ∙ ap (λ xs. c ∷ xs) (pixels_back Bits24 cs p.1)
pixels_back Bits16 (c ∷ cs) h = let p = and_parts (is_pixel Bits16 c) (are_pixels Bits16 cs) h in
    ap (λ x. x ∷ pixels_of Bits16 (pixels_bytes Bits16 cs)) (pixel_back Bits16 c p.0) ∙ ap (λ xs. c ∷ xs) (pixels_back Bits16 cs p.1)

-- pixels of 24 bits are colours
pub are_pixels-colors : (cs : List ℕ) → are_pixels Bits24 cs ≡ are_colors cs
are_pixels-colors [] = refl
are_pixels-colors (c ∷ cs) = ap (λ b. is_color c && b) (are_pixels-colors cs)

-- colours as they are shown are pixels
pub shown_is_pixel : (d : Depth) (c : ℕ) → is_color c ≡ true → is_pixel d (shown d c) ≡ true
shown_is_pixel Bits24 c h = h
shown_is_pixel Bits16 c h = let low = cut_below c (color_below c h) in grind (arith, nat_tests, low)

pub shown_are_pixels : (d : Depth) (cs : List ℕ) → are_colors cs ≡ true → are_pixels d (shown_colors d cs) ≡ true
shown_are_pixels d [] h = refl
shown_are_pixels d (c ∷ cs) h = let p = and_parts (is_color c) (are_colors cs) h in and_from _ _ (shown_is_pixel d c p.0) (shown_are_pixels d cs p.1)
