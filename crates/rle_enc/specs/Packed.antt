-- Pixels of which packed bytes may be there.
use Rattle.std.specs.Prelude.{◌≡◌, ◌≤◌, ℕ, List, [], length, Bool, Option, Some, None, Vec, true, false}
use Rattle.px_core.specs.declared.depth.Depth.{Depth}
use Rattle.px_core.specs.Depth.{shown_colors}
use Rattle.px_core.specs.Pixels.{pixels_bytes}
use Rattle.px_core.specs.Picture.{turned_over}
use Rattle.run_lengths.specs.WirePixels.{PixelData, data_of, pixel_data}

-- packed bytes where there are some, else the pixels' own bytes
abbrev pub data_given : Option (List ℕ) → List ℕ → PixelData
data_given None raw = pixel_data false raw
data_given (Some bytes) raw = pixel_data true bytes

-- the same of packed bytes in a list of their own
abbrev pub data_with : {Z : Type 0} → Option (Vec ℕ Z) → List ℕ → PixelData
data_with None raw = pixel_data false raw
data_with (Some bytes) raw = pixel_data true bytes.items

-- w by h colours, row by row from the top, go as these packed bytes at a depth, or as they are where there are none
pub record IsTilePacked (depth : Depth) (no_header : Bool) (w h : ℕ) (colors : List ℕ) (packed : Option (List ℕ)) : Type 0 where
  pub goes : data_given packed (pixels_bytes depth (shown_colors depth (turned_over w h colors)))
      ≡ data_of depth no_header w (shown_colors depth (turned_over w h colors))
  pub short : length (data_given packed []).bytes ≤ 12288
