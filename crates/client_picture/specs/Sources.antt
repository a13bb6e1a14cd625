-- Pixels that are taken from an image, from saved pixels, or from the picture itself.
use Rattle.std.specs.Prelude.{◌≡◌, ℕ, ◌+◌, ◌-◌, ◌*◌, ◌%◌, ◌≤◌, ℤ, pos, ◌+ℤ◌, ◌-ℤ◌, List, length, get_or, Option, Some, None, option_copied}
use Rattle.px_core.specs.declared.surface.Size.{Size}
use Rattle.px_core.specs.declared.rectangle.Rect.{Rect}
use Rattle.px_core.specs.declared.depth.Depth.{Depth}
use Rattle.px_core.specs.Picture.{pixel_at}
use Rattle.draw_ops.specs.Depths.{maybe_raster_at}
use Rattle.client_picture.specs.Pictures.{brush_operand}
use Rattle.client_picture.specs.declared.part.Part.{Part}
use Rattle.client_picture.specs.declared.corner.Corner.{Corner}
use Rattle.client_picture.specs.declared.mix.Mix.{Mix}
use Rattle.client_picture.specs.declared.mix.Texture.{Texture}

-- the place in a source that is as far from (sx, sy) as the upper left pixel of a part is from a rectangle's
pub record IsCorner (r : Rect) (sx sy : ℤ) (part : Part) (from : Corner) : Type 0 where
  pub x : pos from.x ≡ ((pos part.x -ℤ r.x) +ℤ sx)
  pub y : pos from.y ≡ ((pos part.y -ℤ r.y) +ℤ sy)

-- a source of w columns and some pixels has one for each pixel of a part
pub record Covers (part : Part) (w count : ℕ) (from : Corner) : Type 0 where
  pub columns : from.x + part.w ≤ w
  pub rows : w * (from.y + part.h) ≤ count
  pub narrow : w ≤ 65535
  pub low : from.y + part.h ≤ 65535

-- the place among a source's pixels that belongs to a pixel of a part
abbrev pub place_in : ℕ → Corner → Part → ℕ → ℕ → ℕ
place_in w from part x y = w * (from.y + (y - part.y)) + (from.x + (x - part.x))

-- the pixel of a source, which may be unknown, for a pixel of a part
abbrev pub pixel_from : List (Option ℕ) → ℕ → Corner → Part → ℕ → ℕ → Option ℕ
pixel_from ps w from part x y = get_or ps (place_in w from part x y) None

-- the colour of an image for a pixel of a part
abbrev pub texture_color : Part → Texture → ℕ → ℕ → ℕ
texture_color part t x y = get_or t.pixels.now (place_in t.w t.from part x y) 0

abbrev pub CoversPart : Part → Texture → Type 0
CoversPart part t = Covers part t.w (length t.pixels.now) t.from

-- the colour of a source: 0 where it is missing
abbrev pub source_color : Part → Option Texture → ℕ → ℕ → ℕ
source_color part None x y = 0
source_color part (Some t) x y = texture_color part t x y

-- what a raster operation makes of a pixel of a part, over the old picture
abbrev pub mixed_color : Size → List (Option ℕ) → Part → Mix → ℕ → ℕ → Option ℕ
mixed_color size old part mix x y =
    maybe_raster_at mix.depth mix.rop (brush_operand (option_copied mix.brush) (pos x) (pos y)) (Some (source_color part mix.texture x y))
    (pixel_at size old None x y)

-- what a copy makes of a pixel of a part, over the old picture
abbrev pub copied_color : Depth → Size → List (Option ℕ) → Part → ℕ → Corner → ℕ → ℕ → Option ℕ
copied_color depth size old part rop from x y =
    maybe_raster_at depth rop (Some 0) (pixel_at size old None (from.x + (x - part.x)) (from.y + (y - part.y))) (pixel_at size old None x y)

-- the source of a copy lies inside the picture
pub record IsSourceInside (size : Size) (part : Part) (from : Corner) : Type 0 where
  pub columns : from.x + part.w ≤ size.w
  pub rows : from.y + part.h ≤ size.h

-- a colour that may be unknown, as the code CC copies it at 24 bits: bits from 24 on are dropped
abbrev pub copied : Option ℕ → Option ℕ
copied None = None
copied (Some color) = Some (color % 16777216)
