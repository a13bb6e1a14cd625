-- A tile's packed bytes are what its colours go as.
use Rattle.std.proofs.Common.{◌≡◌, ℕ, ◌*◌, ◌≤◌, List, [], length, refl, sym, ◌∙◌, subst, arith}
use Rattle.std.specs.Prelude.{true, Result, Ok, Err, IfOk, Option, Some, None, Vec, option_map}
use Rattle.std.proofs.lemmas.Nat.{mul-le}
use Rattle.px_core.specs.declared.depth.Depth.{Depth}
use Rattle.px_core.specs.Depth.{shown_colors}
use Rattle.px_core.specs.Picture.{turned_over}
use Rattle.px_core.specs.Pixels.{pixels_bytes}
use Rattle.run_lengths.specs.WirePixels.{PixelData, data_of}
use Rattle.rle_enc.specs.Packed.{data_given, data_with, IsTilePacked}
use Rattle.rle_enc.proofs.Bytes.{shown_bytes}

-- packed bytes that are lent are the same
pub given_is : {Z : Type 0} (packed : Option (Vec ℕ Z)) (raw : List ℕ) → data_given (option_map (λ (bytes : Vec ℕ Z). bytes.items) packed) raw ≡ data_with packed raw
given_is None raw = refl
given_is (Some bytes) raw = refl

-- what packing a tile's colours gives, by what packing its rows from the bottom up says
pub tile_packed : {Y Z : Type 0} (d : Depth) (w h : ℕ) (colors wire : List ℕ) (r : Result (Option (Vec ℕ Z)) Y) → wire ≡ shown_colors d (turned_over w h colors) → length wire ≡ w * h → w ≤ 64 → h ≤ 64
    → IfOk r (λ packed. data_with packed (pixels_bytes d wire) ≡ data_of d true w wire) → IfOk r (λ packed. length (data_with packed []).bytes ≤ 3 * length wire)
    → IfOk r (λ packed. IsTilePacked d true w h colors (option_map (λ (bytes : Vec ℕ Z). bytes.items) packed))
tile_packed d w h colors wire (Err e) is long narrow low goes short = tt
tile_packed d w h colors wire (Ok packed) is long narrow low goes short =
    let few : w * h ≤ 4096 = mul-le w h 64 64 narrow low in
    record {
      goes = given_is packed (shown_bytes d (turned_over w h colors)) ∙ subst (λ (ps : List ℕ). data_with packed (pixels_bytes d ps) ≡ data_of d true w ps) is goes;
      short = subst (λ (of : PixelData). length of.bytes ≤ 12288) (sym (given_is packed [])) (omega (arith, short, long, few));
    }
