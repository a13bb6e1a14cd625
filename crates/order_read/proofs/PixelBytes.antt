-- Pixels of bytes, one more at a time.
use Rattle.std.proofs.Common.{◌≡◌, ◌≤◌, ◌<◌, ◌*◌, ◌+◌, ◌/◌, ℕ, List, [], ◌∷◌, ◌++◌, length, drop, refl, ap, sym, ◌∙◌, append_assoc, append-nil, arith}
use Rattle.std.proofs.lemmas.List.{length-drop, drop-drop}
use Rattle.byteorder.specs.Endian.{little_number}
use Rattle.px_core.specs.declared.depth.Depth.{Depth}
use Rattle.px_core.specs.declared.depth.Depth.TheVariants.{Bits24, Bits16}
use Rattle.px_core.specs.Depth.{bytes_in, brush_bytes}
use Rattle.px_core.specs.Pixels.{pixels_of_2, pixels_of_3}
use Rattle.wire_num.proofs.Numbers.{little_front}

-- ---- three bytes a pixel

one_pixel_3 : (bs : List ℕ) → 3 ≤ length bs → pixels_of_3 bs ≡ little_number 3 bs ∷ pixels_of_3 (drop 3 bs)
one_pixel_3 [] h = absurd (omega arith)
one_pixel_3 (b ∷ []) h = absurd (omega arith)
one_pixel_3 (b ∷ g ∷ []) h = absurd (omega arith)
one_pixel_3 (b ∷ g ∷ r ∷ bs) h = ap (λ (x : ℕ). x ∷ pixels_of_3 bs) (little_front 3 (b ∷ g ∷ r ∷ bs) h)

no_pixel_3 : (bs : List ℕ) → length bs < 3 → pixels_of_3 bs ≡ []
no_pixel_3 [] h = refl
no_pixel_3 (b ∷ []) h = refl
no_pixel_3 (b ∷ g ∷ []) h = refl
no_pixel_3 (b ∷ g ∷ r ∷ bs) h = absurd (omega arith)

-- a pixel more
pub pixel_more_3 : (bs out : List ℕ) (k : ℕ) → k < length bs / 3 → pixels_of_3 bs ≡ out ++ pixels_of_3 (drop (3 * k) bs) → pixels_of_3 bs ≡ (out ++ little_number 3 (drop (3 * k) bs) ∷ []) ++ pixels_of_3 (drop (3 * (k + 1)) bs)
pixel_more_3 bs out k lt e =
    let size = length-drop (3 * k) bs in
    let room : 3 ≤ length (drop (3 * k) bs) = omega (arith, size, lt) in
    let sum : 3 * k + 3 ≡ 3 * (k + 1) = omega arith in
    let next : drop 3 (drop (3 * k) bs) ≡ drop (3 * (k + 1)) bs = drop-drop 3 (3 * k) bs ∙ ap (λ (n : ℕ). drop n bs) sum in
    e ∙ ap (λ ps. out ++ ps) (one_pixel_3 (drop (3 * k) bs) room ∙ ap (λ xs. little_number 3 (drop (3 * k) bs) ∷ pixels_of_3 xs) next)
    ∙ sym (append_assoc out (little_number 3 (drop (3 * k) bs) ∷ []) (pixels_of_3 (drop (3 * (k + 1)) bs)))

-- no pixel is left
pub pixels_done_3 : (bs out : List ℕ) (k : ℕ) → length bs / 3 ≤ k → pixels_of_3 bs ≡ out ++ pixels_of_3 (drop (3 * k) bs) → out ≡ pixels_of_3 bs
pixels_done_3 bs out k le e =
    let size = length-drop (3 * k) bs in
    let few : length (drop (3 * k) bs) < 3 = omega (arith, size, le) in
    sym (e ∙ ap (λ ps. out ++ ps) (no_pixel_3 (drop (3 * k) bs) few) ∙ append-nil out)

-- ---- two bytes a pixel

one_pixel_2 : (bs : List ℕ) → 2 ≤ length bs → pixels_of_2 bs ≡ little_number 2 bs ∷ pixels_of_2 (drop 2 bs)
one_pixel_2 [] h = absurd (omega arith)
one_pixel_2 (b ∷ []) h = absurd (omega arith)
one_pixel_2 (l ∷ r ∷ bs) h = ap (λ (x : ℕ). x ∷ pixels_of_2 bs) (little_front 2 (l ∷ r ∷ bs) h)

no_pixel_2 : (bs : List ℕ) → length bs < 2 → pixels_of_2 bs ≡ []
no_pixel_2 [] h = refl
no_pixel_2 (b ∷ []) h = refl
no_pixel_2 (l ∷ r ∷ bs) h = absurd (omega arith)

-- a pixel more
pub pixel_more_2 : (bs out : List ℕ) (k : ℕ) → k < length bs / 2 → pixels_of_2 bs ≡ out ++ pixels_of_2 (drop (2 * k) bs) → pixels_of_2 bs ≡ (out ++ little_number 2 (drop (2 * k) bs) ∷ []) ++ pixels_of_2 (drop (2 * (k + 1)) bs)
pixel_more_2 bs out k lt e =
    let size = length-drop (2 * k) bs in
    let room : 2 ≤ length (drop (2 * k) bs) = omega (arith, size, lt) in
    let sum : 2 * k + 2 ≡ 2 * (k + 1) = omega arith in
    let next : drop 2 (drop (2 * k) bs) ≡ drop (2 * (k + 1)) bs = drop-drop 2 (2 * k) bs ∙ ap (λ (n : ℕ). drop n bs) sum in
    e ∙ ap (λ ps. out ++ ps) (one_pixel_2 (drop (2 * k) bs) room ∙ ap (λ xs. little_number 2 (drop (2 * k) bs) ∷ pixels_of_2 xs) next)
    ∙ sym (append_assoc out (little_number 2 (drop (2 * k) bs) ∷ []) (pixels_of_2 (drop (2 * (k + 1)) bs)))

-- no pixel is left
pub pixels_done_2 : (bs out : List ℕ) (k : ℕ) → length bs / 2 ≤ k → pixels_of_2 bs ≡ out ++ pixels_of_2 (drop (2 * k) bs) → out ≡ pixels_of_2 bs
pixels_done_2 bs out k le e =
    let size = length-drop (2 * k) bs in
    let few : length (drop (2 * k) bs) < 2 = omega (arith, size, le) in
    sym (e ∙ ap (λ ps. out ++ ps) (no_pixel_2 (drop (2 * k) bs) few) ∙ append-nil out)

-- ---- brushes

-- the pixels of a brush's bytes are 64
pub brush_pixels : (d : Depth) (n m : ℕ) → n ≡ brush_bytes d → m ≡ n / bytes_in d → m ≡ 64
brush_pixels Bits24 n m e f = omega (arith, e, f)
brush_pixels Bits16 n m e f = omega (arith, e, f)
