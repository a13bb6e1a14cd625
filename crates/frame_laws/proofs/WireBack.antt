-- Pixels of a depth that go over the wire, raw or packed, are read as they were; and what is shown of colours is such pixels.
use Rattle.std.proofs.Common.{◌≡◌, ℕ, suc, ◌*◌, ◌<◌, ◌≤◌, List, [], ◌∷◌, length, refl, ap, ◌∙◌, arith, if◌then◌else◌}
use Rattle.std.specs.Prelude.{Bool, true, false, ◌==◌, nat_lt, nat_le, Ok}
use Rattle.std.proofs.lemmas.Bool.Decides.{nat_tests}
use Rattle.std.proofs.lemmas.Bool.{and_from}
use Rattle.px_core.specs.declared.depth.Depth.{Depth}
use Rattle.px_core.specs.declared.depth.Depth.TheVariants.{Bits24, Bits16}
use Rattle.px_core.specs.Colors.{are_colors}
use Rattle.px_core.specs.Depth.{bytes_in, shown_colors}
use Rattle.px_core.specs.Pixels.{pixels_of, pixels_bytes, are_pixels}
use Rattle.px_core.proofs.Colors.{color_is}
use Rattle.px_core.proofs.Pixels as wire
use Rattle.px_core.proofs.Pixels.{length-pixels_bytes, shown_are_pixels}
use Rattle.run_lengths.specs.Packer.{packed}
use Rattle.run_lengths.proofs.Laws.{decompressed_is_unrle}
use Rattle.run_lengths.proofs.Stretches.{packed_decompresses}
use Rattle.run_lengths.specs.WirePixels.{PixelData, pixel_data, packed_if_shorter, data_of}
use Rattle.order_means.specs.ClientState.{needs, unless_refused, wire_pixels}
use Rattle.order_means.specs.ClientState.Fault.{Broken}
use Rattle.frame_laws.specs.Sound.{AreColors}

-- ---- what is shown of colours

all_colors : (cs : List ℕ) → AreColors cs → are_colors cs ≡ true
all_colors [] h = refl
all_colors (c ∷ cs) h = and_from _ _ (color_is c h.0) (all_colors cs h.1)

-- colours as they are shown are pixels of the depth
pub shown_pixels : (depth : Depth) (cs : List ℕ) → AreColors cs → are_pixels depth (shown_colors depth cs) ≡ true
shown_pixels depth cs h = shown_are_pixels depth cs (all_colors cs h)

pub length-shown : (depth : Depth) (cs : List ℕ) → length (shown_colors depth cs) ≡ length cs
length-shown depth [] = refl
length-shown depth (c ∷ cs) = ap suc (length-shown depth cs)

-- what fits where each pixel counts for three bytes fits where it has those of its depth
pub cell_fits : (depth : Depth) (n cell : ℕ) → nat_le (3 * n) cell ≡ true → nat_le (bytes_in depth * n) cell ≡ true
cell_fits Bits24 n cell h = h
cell_fits Bits16 n cell h = grind (arith, nat_tests, h)

-- ---- there and back

raw_back : (depth : Depth) (w h : ℕ) (ps : List ℕ) → length ps ≡ w * h → are_pixels depth ps ≡ true → wire_pixels depth false w h (pixels_bytes depth ps) ≡ Ok ps
raw_back depth w h ps whole c =
    let count : length (pixels_bytes depth ps) ≡ bytes_in depth * (w * h) = length-pixels_bytes depth ps ∙ ap (λ n. bytes_in depth * n) whole in
    let test : (length (pixels_bytes depth ps) == bytes_in depth * (w * h)) ≡ true = grind (arith, nat_tests, count) in
    ap (λ b. needs b Broken (Ok (pixels_of depth (pixels_bytes depth ps)))) test ∙ ap Ok (wire.pixels_back depth ps c)

packed_back : (depth : Depth) (w h : ℕ) (ps : List ℕ) → 0 < w → 0 < h → length ps ≡ w * h → length ps < 65536 → are_pixels depth ps ≡ true
    → wire_pixels depth true w h (packed depth w ps) ≡ Ok ps
packed_back depth w h ps wide high whole small c =
    let some : 1 ≤ w = omega (arith, wide) in
    let least : w * 1 ≤ w * h = grind (arith, high) in
    let row : w ≤ length ps = omega (arith, whole, least) in
    ap unless_refused (decompressed_is_unrle depth (packed depth w ps) w h ps some (packed_decompresses depth w h ps some row whole small c))

-- the bytes of pixels are read as these pixels
pub pixels_back : (depth : Depth) (no_header : Bool) (w h : ℕ) (ps : List ℕ) → 0 < w → 0 < h → length ps ≡ w * h → length ps < 65536
    → are_pixels depth ps ≡ true
    → wire_pixels depth (data_of depth no_header w ps).is_packed w h (data_of depth no_header w ps).bytes ≡ Ok ps
pixels_back depth false w h ps wide high whole small c = raw_back depth w h ps whole c
pixels_back depth true w h ps wide high whole small c = by (nat_lt (length (packed depth w ps)) (length (pixels_bytes depth ps))) refl
  where
    by : (b : Bool) → nat_lt (length (packed depth w ps)) (length (pixels_bytes depth ps)) ≡ b
        → wire_pixels depth (packed_if_shorter (packed depth w ps) (pixels_bytes depth ps)).is_packed w h
        (packed_if_shorter (packed depth w ps) (pixels_bytes depth ps)).bytes ≡ Ok ps
    by true e = ap (λ b. let d : PixelData = (if b then pixel_data true (packed depth w ps) else pixel_data false
        (pixels_bytes depth ps)) in wire_pixels depth d.is_packed w h d.bytes) e ∙ packed_back depth w h ps wide high whole small c
    by false e = ap (λ b. let d : PixelData = (if b then pixel_data true (packed depth w ps) else pixel_data false
        (pixels_bytes depth ps)) in wire_pixels depth d.is_packed w h d.bytes) e ∙ raw_back depth w h ps whole c

raw_short : (depth : Depth) (ps : List ℕ) → length (pixels_bytes depth ps) ≤ 3 * length ps
raw_short Bits24 ps = let n = length-pixels_bytes Bits24 ps in omega (arith, n)
raw_short Bits16 ps = let n = length-pixels_bytes Bits16 ps in omega (arith, n)

-- they are at most three a pixel
pub data_short : (depth : Depth) (no_header : Bool) (w : ℕ) (ps : List ℕ) → length (data_of depth no_header w ps).bytes ≤ 3 * length ps
data_short depth false w ps = raw_short depth ps
data_short depth true w ps = by (nat_lt (length (packed depth w ps)) (length (pixels_bytes depth ps))) refl
  where
    by : (b : Bool) → nat_lt (length (packed depth w ps)) (length (pixels_bytes depth ps)) ≡ b
        → length (packed_if_shorter (packed depth w ps) (pixels_bytes depth ps)).bytes ≤ 3 * length ps
    by true e = let n = raw_short depth ps in let few : length (packed depth w ps) < length (pixels_bytes depth ps) = grind (arith, nat_tests, e) in rw e
        (omega (arith, few, n))
    by false e = let n = raw_short depth ps in rw e n
