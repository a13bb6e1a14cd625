use Rattle.std.proofs.Common.{◌≡◌, ap, ◌∙◌, rules, w32, to_z, of_z}
use Rattle.std.proofs.lemmas.Int.{to_z-of_z}
use Rattle.std.specs.Prelude.{pos, option_copied}
use Rattle.px_core.specs.Picture.{pixel_at}
use Rattle.px_core.specs.Rectangle.{in_clip}
use Rattle.rop3_core.specs.Rop3.{ternary_raster}
use Rattle.rop3_core.specs.Palette.{session_colors}
use Rattle.draw_ops.specs.Drawing.{pattern_of, source_of}
use Rattle.draw_ops.specs.Formulas.{rastered}
use Rattle.surface_parts.specs.declared.mix.Mix.{Mix}
use Rattle.surface_parts.specs.Parts.{in_part}
use Rattle.surface_parts.specs.Textures.{mixed_color}
use Rattle.surface_parts.proofs.Paintings.{over_rect_is, unseen}
use Rattle.surface_parts.proofs.rects.mix_rect.Goals as goal

pub returns-in-Some : goal.returns-in-Some
returns-in-Some c = let size = c.args.window.size in let b = c.args.blend in let old = c.args.pixels.now in let rect = c.args.rect in
    let mix : Mix = record { rop = b.rop; brush = b.brush; texture = c.source_texture-texture.result } in
    over_rect_is size (in_clip c.args.window.clip) rect (rastered session_colors b.rop (pattern_of (option_copied b.brush)) (source_of (option_copied b.image) rect b.sx b.sy)) old c.requires.canvas.sized
    (in_part c.in-Some.part) (mixed_color size old c.in-Some.part mix) c.mix_part.new.pixels c.mix_part.ensures (λ x y left above. c.in-Some.ensures.pixels x y left above)
    (λ x y left above h.
    let ex : to_z w32 (of_z w32 b.sx) ≡ b.sx = search (rules, to_z-of_z) in
    let ey : to_z w32 (of_z w32 b.sy) ≡ b.sy = search (rules, to_z-of_z) in
    ap (λ s. ternary_raster b.rop (pattern_of (option_copied b.brush) (pos x) (pos y)) s (pixel_at size old 0 x y))
    (c.source_texture-texture.ensures.colors x y h
    ∙ ap (λ z. source_of (option_copied b.image) rect z (to_z w32 (of_z w32 b.sy)) (pos x) (pos y)) ex
    ∙ ap (λ z. source_of (option_copied b.image) rect b.sx z (pos x) (pos y)) ey))

pub returns-in-None : goal.returns-in-None
returns-in-None c = let b = c.args.blend in let rect = c.args.rect in
    unseen c.args.window.size (in_clip c.args.window.clip) rect (rastered session_colors b.rop (pattern_of (option_copied b.brush)) (source_of (option_copied b.image) rect b.sx b.sy)) c.args.pixels.now c.requires.canvas.sized
    (λ x y left above. c.in-None.ensures.pixels x y left above)
