use Rattle.std.proofs.Common.{◌≡◌, ◌<◌, ◌^◌, Option, sym, ap, subst, ◌∙◌}
use Rattle.std.specs.Prelude.{pos, option_copied, IfSome}
use Rattle.px_core.specs.Picture.{pixel_at}
use Rattle.rop3_core.specs.Rop3.{ternary_raster}
use Rattle.rop3_core.proofs.WholeWords.{copy_is_raster}
use Rattle.draw_ops.specs.Drawing.{pattern_of}
use Rattle.surface_parts.specs.declared.texture.Texture.{Texture}
use Rattle.surface_parts.specs.Parts.{in_part}
use Rattle.surface_parts.specs.Textures.{mixed_color, source_color, texture_color, CoversPart}
use Rattle.tile_surface.specs.Cells.{picture_of}
use Rattle.tile_surface.proofs.Colored.{color_whole}
use Rattle.tile_surface.proofs.Pasted.{painted_alike}
use Rattle.tile_surface.proofs.rects.mix_part.Goals as goal

pub paste_part-requires-clause-texture : goal.paste_part-requires-clause-texture
paste_part-requires-clause-texture c = subst (λ (o : Option Texture). IfSome o (CoversPart c.args.part)) c.in-Some.ensures.1 c.requires.texture

pub returns-in-Some-clause-painted : goal.returns-in-Some-clause-painted
returns-in-Some-clause-painted c = let p = c.args.part in let mix = c.args.mix in let t = c.in-Some.texture in let size = c.args.size in let old = picture_of size c.args.cells.now in
    painted_alike size (in_part p) (texture_color p t) (mixed_color size old p mix) old (picture_of size c.paste_part.new.cells) c.paste_part.ensures.painted
    (λ x y left above h.
    let same : source_color p mix.texture x y ≡ texture_color p t x y = ap (λ (o : Option Texture). source_color p o x y) c.in-Some.ensures.1 in
    color_whole (texture_color p t x y) (subst (λ color. color < 2 ^ 24) same (c.requires.source_colors x y h))
    ∙ copy_is_raster (pattern_of (option_copied mix.brush) (pos x) (pos y)) (texture_color p t x y) (pixel_at size old 0 x y)
    ∙ ap (λ r. ternary_raster r (pattern_of (option_copied mix.brush) (pos x) (pos y)) (texture_color p t x y) (pixel_at size old 0 x y)) (sym c.in-Some.ensures.0)
    ∙ ap (λ s. ternary_raster mix.rop (pattern_of (option_copied mix.brush) (pos x) (pos y)) s (pixel_at size old 0 x y)) (sym same))
