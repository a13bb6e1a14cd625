-- Parts that are mixed with a texture.
use Rattle.std.specs.Prelude.{ℕ, pos, List, Option}
use Rattle.px_core.specs.declared.surface.Size.{Size}
use Rattle.px_core.specs.Picture.{pixel_at}
use Rattle.rop3_core.specs.Rop3.{ternary_raster}
use Rattle.draw_ops.specs.Drawing.{pattern_of}
use Rattle.surface_parts.specs.declared.part.Part.{Part}
use Rattle.surface_parts.specs.declared.texture.Texture.{Texture}
use Rattle.surface_parts.specs.Textures.{texture_color}

-- what a raster operation makes of a pixel of a part, with a brush that may be missing and a texture, over the old picture
abbrev pub blended_color : Size → List ℕ → Part → ℕ → Option (List ℕ) → Texture → ℕ → ℕ → ℕ
blended_color size old part rop brush t x y = ternary_raster rop (pattern_of brush (pos x) (pos y)) (texture_color part t x y) (pixel_at size old 0 x y)
