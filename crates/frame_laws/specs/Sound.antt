-- Colours, and images that a session draws with.
use Rattle.std.specs.Prelude.{◌≡◌, ℕ, ◌*◌, ◌^◌, ◌<◌, ◌≤◌, List, [], ◌∷◌, length, ⊤}
use Rattle.draw_ops.specs.Content.{ImageOf}

-- each colour is below 2^24
abbrev pub AreColors : List ℕ → Type 0
AreColors [] = ⊤
AreColors (c ∷ cs) = (c < 2 ^ 24) × AreColors cs

-- an image that a slot may hold
pub record IsSoundImage (image : ImageOf) : Type 0 where
  pub some_columns : 0 < image.w
  pub few_columns : image.w ≤ 64
  pub some_rows : 0 < image.h
  pub few_rows : image.h ≤ 64
  pub whole : length image.pixels ≡ image.w * image.h
  pub colors : AreColors image.pixels
