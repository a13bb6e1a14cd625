-- Pixels that are taken from an image or a block.
use Rattle.std.specs.Prelude.{◌≡◌, ℕ, ◌+◌, ◌-◌, ◌*◌, ◌≤◌, ℤ, pos, IsTrue, List, length, get_or, Option, Some, None, option_copied}
use Rattle.px_core.specs.declared.surface.Size.{Size}
use Rattle.px_core.specs.declared.rectangle.Rect.{Rect}
use Rattle.px_core.specs.Picture.{pixel_at}
use Rattle.px_core.specs.Rectangle.{boxed, is_inside}
use Rattle.rop3_core.specs.Rop3.{ternary_raster}
use Rattle.draw_ops.specs.Content.{ImageOf}
use Rattle.draw_ops.specs.Fits.{image_rule}
use Rattle.draw_ops.specs.Drawing.{pattern_of}
use Rattle.surface_parts.specs.declared.part.Part.{Part}
use Rattle.surface_parts.specs.declared.texture.Texture.{Texture}
use Rattle.surface_parts.specs.declared.mix.Mix.{Mix}
use Rattle.surface_parts.specs.declared.picture_copy.PictureCopy.{PictureCopy}

-- the colour that a texture has for a pixel of a part
abbrev pub texture_color : Part → Texture → ℕ → ℕ → ℕ
texture_color part t x y = get_or t.pixels.now (t.w * (t.y + (y - part.y)) + (t.x + (x - part.x))) 0

-- a texture has a colour for each pixel of a part
pub record CoversPart (part : Part) (t : Texture) : Type 0 where
  pub columns : t.x + part.w ≤ t.w
  pub rows : t.w * (t.y + part.h) ≤ length t.pixels.now
  pub narrow : t.w ≤ 65536
  pub low : t.y + part.h ≤ 65536

-- the colour of a source: 0 where it is missing
abbrev pub source_color : Part → Option Texture → ℕ → ℕ → ℕ
source_color part None x y = 0
source_color part (Some t) x y = texture_color part t x y

-- what a raster operation makes of a pixel of a part, over the old picture
abbrev pub mixed_color : Size → List ℕ → Part → Mix → ℕ → ℕ → ℕ
mixed_color size old part mix x y =
    ternary_raster mix.rop (pattern_of (option_copied mix.brush) (pos x) (pos y)) (source_color part mix.texture x y) (pixel_at size old 0 x y)

-- the source of a copy lies inside the picture
pub record IsSourceInside (size : Size) (part : Part) (copy : PictureCopy) : Type 0 where
  pub columns : copy.x + part.w ≤ size.w
  pub rows : copy.y + part.h ≤ size.h

-- what a copy makes of a pixel of a part, over the old picture
abbrev pub copied_color : Size → List ℕ → Part → PictureCopy → ℕ → ℕ → ℕ
copied_color size old part copy x y = ternary_raster copy.rop 0 (pixel_at size old 0 (copy.x + (x - part.x)) (copy.y + (y - part.y))) (pixel_at size old 0 x y)

-- an image keeps its rule, and the source of a blit lies inside it
pub record HasSource (rect : Rect) (sx sy : ℤ) (image : ImageOf) : Type 0 where
  pub rule : image_rule image ≡ None
  pub inside : IsTrue (is_inside (record { w = image.w; h = image.h }) (boxed sx sy rect.w rect.h))

-- a block has its pixels and lies inside the surface where it is restored
pub record IsRestorable (size : Size) (x y : ℤ) (block : ImageOf) : Type 0 where
  pub whole : length block.pixels ≡ block.w * block.h
  pub inside : IsTrue (is_inside size (boxed x y block.w block.h))
