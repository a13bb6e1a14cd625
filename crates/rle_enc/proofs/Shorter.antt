-- Packed bytes that are shorter than the pixels' own, and how many those are.
use Rattle.std.proofs.Common.{rules, ◌≡◌, ℕ, ◌*◌, ◌<◌, ◌≤◌, List, length, ap, ◌∙◌, refl, arith}
use Rattle.std.specs.Prelude.{Bool, true, false, nat_lt}
use Rattle.std.proofs.lemmas.Bool.Decides.{nat_tests}
use Rattle.px_core.specs.declared.depth.Depth.{Depth}
use Rattle.px_core.specs.declared.depth.Depth.TheVariants.{Bits24, Bits16}
use Rattle.px_core.specs.Depth.{bytes_in}
use Rattle.px_core.specs.Pixels.{pixels_bytes}
use Rattle.px_core.proofs.Pixels.{length-pixels_bytes}
use Rattle.run_lengths.specs.Packer.{packed}
use Rattle.run_lengths.specs.WirePixels.{pixel_data, data_of}

-- a pixel has at most three bytes
pub at_most_three : (d : Depth) (n : ℕ) → bytes_in d * n ≤ 3 * n
at_most_three Bits24 n = omega arith
at_most_three Bits16 n = omega arith

pub shorter_is_packed : (d : Depth) (no_header : Bool) (w : ℕ) (pixels bytes : List ℕ) → no_header ≡ true → bytes ≡ packed d w pixels → length bytes < bytes_in d * length pixels
    → pixel_data true bytes ≡ data_of d no_header w pixels
shorter_is_packed d false w pixels bytes h e lt = absurd (search rules)
shorter_is_packed d true w pixels bytes h e lt =
    let raw = length-pixels_bytes d pixels in
    let test : nat_lt (length (packed d w pixels)) (length (pixels_bytes d pixels)) ≡ true = let same : length bytes ≡ length (packed d w pixels) = ap length e in grind (arith, nat_tests, same, raw, lt) in
    ap (pixel_data true) e ∙ rw test refl

pub longer_is_raw : (d : Depth) (no_header : Bool) (w : ℕ) (pixels : List ℕ) → no_header ≡ true → bytes_in d * length pixels ≤ length (packed d w pixels)
    → pixel_data false (pixels_bytes d pixels) ≡ data_of d no_header w pixels
longer_is_raw d false w pixels h le = refl
longer_is_raw d true w pixels h le =
    let raw = length-pixels_bytes d pixels in
    let test : nat_lt (length (packed d w pixels)) (length (pixels_bytes d pixels)) ≡ false = grind (arith, nat_tests, raw, le) in
    rw test refl
