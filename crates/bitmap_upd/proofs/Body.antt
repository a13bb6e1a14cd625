-- How many bytes a tile's pixels are, and that a head and these are the body.
use Rattle.std.proofs.Common.{◌≡◌, ℕ, ◌*◌, List, ◌∷◌, ◌++◌, length, refl, sym, ap, ◌∙◌}
use Rattle.std.specs.Prelude.{Bool, Option, Some, None, is_some, option_map}
use Rattle.std.proofs.lemmas.List.{length-map}
use Rattle.px_core.specs.declared.depth.Depth.{Depth}
use Rattle.px_core.specs.Depth.{bytes_in, shown, shown_colors}
use Rattle.px_core.proofs.Pixels.{length-pixels_bytes}
use Rattle.px_core.specs.declared.rectangle.Rect.{Rect}
use Rattle.px_core.specs.Picture.{nat_of, turned_over}
use Rattle.run_lengths.specs.WirePixels.{PixelData, pixel_data, data_of}
use Rattle.order_means.specs.UpdateBodies.{tile_data_bytes, tile_body}
use Rattle.px_core.proofs.Turned.{length-turned_over, turned_over-map}
use Rattle.rle_enc.specs.Packed.{data_given}
use Rattle.rle_enc.proofs.Bytes.{shown_bytes}

pub raw_length : (d : Depth) (w h : ℕ) (colors : List ℕ) → length colors ≡ w * h → length (shown_bytes d (turned_over w h colors)) ≡ bytes_in d * length colors
raw_length d w h colors e =
    length-pixels_bytes d (shown_colors d (turned_over w h colors))
    ∙ ap (λ n. bytes_in d * n) (length-map (turned_over w h colors) (shown d) ∙ length-turned_over w h colors e ∙ sym e)

pub data_as : (packed : Option (List ℕ)) (raw : List ℕ) → pixel_data (is_some packed) (data_given packed raw).bytes ≡ data_given packed raw
data_as None raw = refl
data_as (Some bytes) raw = refl

-- a head that fits the pixels' bytes, and these
pub body_is : (d : Depth) (no_header : Bool) (r : Rect) (colors : List ℕ) (packed : Option (List ℕ)) (left top size : ℕ) (is_packed : Bool) (head : List ℕ)
    → left ≡ nat_of r.x → top ≡ nat_of r.y → is_packed ≡ is_some packed
    → ((bytes : List ℕ) → length bytes ≡ size → head ++ bytes ≡ 1 ∷ 0 ∷ 1 ∷ 0 ∷ tile_data_bytes d left top r.w r.h (pixel_data is_packed bytes))
    → size ≡ length (data_given packed (shown_bytes d (turned_over r.w r.h colors))).bytes
    → data_given packed (shown_bytes d (turned_over r.w r.h colors)) ≡ data_of d no_header r.w (shown_colors d (turned_over r.w r.h colors))
    → head ++ (data_given packed (shown_bytes d (turned_over r.w r.h colors))).bytes ≡ tile_body d no_header r colors
body_is d no_header r colors packed left top size is_packed head x y some fits long value =
    let raw = shown_bytes d (turned_over r.w r.h colors) in
    fits (data_given packed raw).bytes (sym long)
    ∙ ap (λ l. 1 ∷ 0 ∷ 1 ∷ 0 ∷ tile_data_bytes d l top r.w r.h (pixel_data is_packed (data_given packed raw).bytes)) x
    ∙ ap (λ t. 1 ∷ 0 ∷ 1 ∷ 0 ∷ tile_data_bytes d (nat_of r.x) t r.w r.h (pixel_data is_packed (data_given packed raw).bytes)) y
    ∙ ap (λ (of : PixelData). 1 ∷ 0 ∷ 1 ∷ 0 ∷ tile_data_bytes d (nat_of r.x) (nat_of r.y) r.w r.h of)
    (ap (λ b. pixel_data b (data_given packed raw).bytes) some ∙ data_as packed raw ∙ value ∙ ap (data_of d no_header r.w) (sym (turned_over-map (shown d) r.w r.h colors)))

pub there_as : {A B : Type 0} (f : A → B) (o : Option A) → is_some o ≡ is_some (option_map f o)
there_as f None = refl
there_as f (Some x) = refl
