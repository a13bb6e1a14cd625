use Rattle.std.proofs.Common.{◌≡◌, ◌<◌, ◌^◌, ap, sym, subst, ◌∙◌, rules, w32, to_z, of_z}
use Rattle.std.proofs.lemmas.Int.{to_z-of_z}
use Rattle.std.specs.Prelude.{pos, option_copied}
use Rattle.px_core.specs.Picture.{both, pixel_at}
use Rattle.px_core.specs.Rectangle.{in_clip, in_rect}
use Rattle.rop3_core.specs.Rop3.{ternary_raster}
use Rattle.rop3_core.specs.Palette.{session_colors}
use Rattle.draw_ops.specs.Drawing.{pattern_of, source_of}
use Rattle.draw_ops.specs.Formulas.{rastered}
use Rattle.surface_parts.specs.declared.mix.Mix.{Mix}
use Rattle.surface_parts.specs.Parts.{in_part}
use Rattle.surface_parts.specs.Textures.{mixed_color}
use Rattle.surface_parts.proofs.Paintings.{over_rect_is, unseen}
use Rattle.tile_surface.specs.Cells.{picture_of}
use Rattle.tile_surface.proofs.Colored.{pattern_colored, source_colored}
use Rattle.tile_surface.proofs.Owning.{keeps_self, owns_part}
use Rattle.tile_surface.proofs.Tiled.{tiled_length}
use Rattle.tile_surface.proofs.rects.mix_rect.Goals as goal

pub mix_part-requires-clause-own : goal.mix_part-requires-clause-own
mix_part-requires-clause-own c = owns_part c.args.window.size c.args.cells.now (both (in_clip c.args.window.clip) (in_rect c.args.rect)) c.in-Some.part c.in-Some.ensures.inside c.requires.own
    (λ x y left above. c.in-Some.ensures.pixels x y left above)

pub mix_part-requires-clause-brush_colors : goal.mix_part-requires-clause-brush_colors
mix_part-requires-clause-brush_colors c = λ x y. pattern_colored (option_copied c.args.blend.brush) x y c.requires.brush_colors

pub mix_part-requires-clause-source_colors : goal.mix_part-requires-clause-source_colors
mix_part-requires-clause-source_colors c = let b = c.args.blend in λ x y inside.
    subst (λ color. color < 2 ^ 24) (sym (c.source_texture-texture.ensures.colors x y inside)) (source_colored (option_copied b.image) c.args.rect _ _ x y c.requires.image_colors)

pub returns-in-Some-clause-painted : goal.returns-in-Some-clause-painted
returns-in-Some-clause-painted c = let size = c.args.window.size in let b = c.args.blend in let old = picture_of size c.args.cells.now in let rect = c.args.rect in
    let mix : Mix = record { rop = b.rop; brush = b.brush; texture = c.source_texture-texture.result } in
    over_rect_is size (in_clip c.args.window.clip) rect (rastered session_colors b.rop (pattern_of (option_copied b.brush)) (source_of (option_copied b.image) rect b.sx b.sy)) old (tiled_length size c.args.cells.now)
    (in_part c.in-Some.part) (mixed_color size old c.in-Some.part mix) (picture_of size c.mix_part.new.cells) c.mix_part.ensures.painted (λ x y left above. c.in-Some.ensures.pixels x y left above)
    (λ x y left above h.
    let ex : to_z w32 (of_z w32 b.sx) ≡ b.sx = search (rules, to_z-of_z) in
    let ey : to_z w32 (of_z w32 b.sy) ≡ b.sy = search (rules, to_z-of_z) in
    ap (λ s. ternary_raster b.rop (pattern_of (option_copied b.brush) (pos x) (pos y)) s (pixel_at size old 0 x y))
    (c.source_texture-texture.ensures.colors x y h
    ∙ ap (λ z. source_of (option_copied b.image) rect z (to_z w32 (of_z w32 b.sy)) (pos x) (pos y)) ex
    ∙ ap (λ z. source_of (option_copied b.image) rect b.sx z (pos x) (pos y)) ey))

pub returns-in-None-clause-painted : goal.returns-in-None-clause-painted
returns-in-None-clause-painted c = let size = c.args.window.size in let b = c.args.blend in let rect = c.args.rect in
    unseen size (in_clip c.args.window.clip) rect (rastered session_colors b.rop (pattern_of (option_copied b.brush)) (source_of (option_copied b.image) rect b.sx b.sy)) (picture_of size c.args.cells.now) (tiled_length size c.args.cells.now)
    (λ x y left above. c.in-None.ensures.pixels x y left above)

pub returns-in-None-clause-kept : goal.returns-in-None-clause-kept
returns-in-None-clause-kept c = keeps_self c.args.window.size c.args.cells.now
