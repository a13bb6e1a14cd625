use Rattle.std.proofs.Common.{Option, sym, ap, subst}
use Rattle.std.specs.Prelude.{pos, option_copied, IfSome}
use Rattle.px_core.specs.Picture.{pixel_at}
use Rattle.rop3_core.specs.Rop3.{ternary_raster}
use Rattle.draw_ops.specs.Drawing.{pattern_of}
use Rattle.surface_parts.specs.declared.texture.Texture.{Texture}
use Rattle.surface_parts.specs.Parts.{in_part}
use Rattle.surface_parts.specs.Textures.{mixed_color, source_color, CoversPart}
use Rattle.tile_surface.specs.Blended.{blended_color}
use Rattle.tile_surface.specs.Cells.{picture_of}
use Rattle.tile_surface.proofs.Pasted.{painted_alike}
use Rattle.tile_surface.proofs.rects.mix_other.Goals as goal

pub blend_part-requires-clause-texture : goal.blend_part-requires-clause-texture
blend_part-requires-clause-texture c = subst (λ (o : Option Texture). IfSome o (CoversPart c.args.part)) c.in-Some.is c.requires.texture

pub returns-in-Some-clause-painted : goal.returns-in-Some-clause-painted
returns-in-Some-clause-painted c = let p = c.args.part in let mix = c.args.mix in let t = c.in-Some.texture in let size = c.args.size in let old = picture_of size c.args.cells.now in
    painted_alike size (in_part p) (blended_color size old p mix.rop (option_copied mix.brush) t) (mixed_color size old p mix) old (picture_of size c.blend_part.new.cells) c.blend_part.ensures.painted
    (λ x y left above h. ap (λ (o : Option Texture). ternary_raster mix.rop (pattern_of (option_copied mix.brush) (pos x) (pos y)) (source_color p o x y) (pixel_at size old 0 x y)) (sym c.in-Some.is))
