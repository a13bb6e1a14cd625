-- The bytes of a brush's order at a depth.
use Rattle.std.proofs.Common.{◌≡◌, ℕ, ◌*◌, ◌-◌, List, [], ◌∷◌, ◌++◌, length, refl, sym, ap, ◌∙◌, arith}
use Rattle.std.proofs.lemmas.List.{length-map}
use Rattle.px_core.specs.declared.depth.Depth.{Depth}
use Rattle.px_core.specs.declared.depth.Depth.TheVariants.{Bits24, Bits16}
use Rattle.px_core.specs.Depth.{brush_bytes, brush_format, bytes_in, shown, shown_colors}
use Rattle.px_core.specs.Pixels.{pixels_bytes}
use Rattle.px_core.proofs.Pixels.{length-pixels_bytes}
use Rattle.px_core.specs.Picture.{turned_over}
use Rattle.order_means.specs.CacheOrders.{cache_brush_bytes, secondary_bytes}
use Rattle.px_core.proofs.Turned.{length-turned_over, turned_over-map}

-- what stands before a brush's pixels
abbrev pub brush_front : Depth → ℕ → List ℕ
brush_front d entry = 3 ∷ (brush_bytes d - 1) ∷ 0 ∷ 0 ∷ 0 ∷ 7 ∷ entry ∷ brush_format d ∷ 8 ∷ 8 ∷ 0 ∷ brush_bytes d ∷ []

abbrev pub brush_body : Depth → ℕ → List ℕ → List ℕ
brush_body d entry bytes = entry ∷ brush_format d ∷ 8 ∷ 8 ∷ 0 ∷ brush_bytes d ∷ bytes

pub front_is : (d : Depth) (entry : ℕ) (bytes : List ℕ) → length bytes ≡ brush_bytes d → brush_front d entry ++ bytes ≡ secondary_bytes 0 7 (brush_body d entry bytes)
front_is Bits24 entry bytes e =
    let n : length (brush_body Bits24 entry bytes) - 7 ≡ 191 = omega (arith, e) in
    rw n refl
front_is Bits16 entry bytes e =
    let n : length (brush_body Bits16 entry bytes) - 7 ≡ 127 = omega (arith, e) in
    rw n refl

-- the bytes of 64 pixels
brush_size : (d : Depth) → bytes_in d * 64 ≡ brush_bytes d
brush_size Bits24 = refl
brush_size Bits16 = refl

pub brush_is : (d : Depth) (entry : ℕ) (brush bytes front : List ℕ)
    → ((bytes : List ℕ) → length bytes ≡ brush_bytes d → front ++ bytes ≡ secondary_bytes 0 7 (brush_body d entry bytes)) → length brush ≡ 64
    → bytes ≡ pixels_bytes d (shown_colors d (turned_over 8 8 brush)) → front ++ bytes ≡ cache_brush_bytes d entry brush
brush_is d entry brush bytes front fits whole value =
    let all : length bytes ≡ brush_bytes d =
    ap length value ∙ length-pixels_bytes d (shown_colors d (turned_over 8 8 brush))
    ∙ ap (λ n. bytes_in d * n) (length-map (turned_over 8 8 brush) (shown d) ∙ length-turned_over 8 8 brush whole) ∙ brush_size d in
    fits bytes all ∙ ap (λ bs. secondary_bytes 0 7 (brush_body d entry bs)) (value ∙ ap (pixels_bytes d) (sym (turned_over-map (shown d) 8 8 brush)))
