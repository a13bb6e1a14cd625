-- Pixels that are written are read back.
use Rattle.std.proofs.Common.{◌≡◌, ℕ, zero, suc, ◌*◌, ◌^◌, ◌<◌, List, [], ◌∷◌, length, refl, ap, ◌∙◌, arith}
use Rattle.std.specs.Prelude.{All}
use Rattle.wire_num.specs.Number.{little_value}
use Rattle.wire_num.specs.Pixels.{pixel_bytes, pixels_bytes, pixels_of}

pub pixel_back : (c : ℕ) → c < 2 ^ 24 → little_value (pixel_bytes c) ≡ c
pixel_back c h = omega (arith, h)

pub pixels_back : (cs : List ℕ) → All (λ c. c < 2 ^ 24) cs → pixels_of (pixels_bytes cs) ≡ cs
pixels_back [] h = refl
pixels_back (c ∷ cs) h =
    ap (λ x. x ∷ pixels_of (pixels_bytes cs)) (pixel_back c (h 0 c (omega arith)))
    ∙ ap (λ xs. c ∷ xs) (pixels_back cs (λ k d b. h (suc k) d (omega (arith, b))))

pub length-pixels_of : (n : ℕ) (bs : List ℕ) → length bs ≡ 3 * n → length (pixels_of bs) ≡ n
length-pixels_of zero [] e = refl
length-pixels_of zero (b ∷ bs) e = absurd (omega (arith, e))
length-pixels_of (suc n) [] e = absurd (omega (arith, e))
length-pixels_of (suc n) (b ∷ []) e = absurd (omega (arith, e))
length-pixels_of (suc n) (b ∷ g ∷ []) e = absurd (omega (arith, e))
length-pixels_of (suc n) (b ∷ g ∷ r ∷ bs) e = let f : length bs ≡ 3 * n = omega (arith, e) in ap suc (length-pixels_of n bs f)

pub length-pixels_bytes : (cs : List ℕ) → length (pixels_bytes cs) ≡ 3 * length cs
length-pixels_bytes [] = refl
length-pixels_bytes (c ∷ cs) = let more = length-pixels_bytes cs in omega (arith, more)
