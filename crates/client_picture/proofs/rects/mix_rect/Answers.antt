use Rattle.std.proofs.Common.{ℕ, ap}
use Rattle.std.specs.Prelude.{pos, Option, None, option_copied}
use Rattle.px_core.specs.Picture.{pixel_at}
use Rattle.px_core.specs.Rectangle.{in_clip}
use Rattle.draw_ops.specs.Depths.{client_colors_at, maybe_raster_at}
use Rattle.draw_ops.specs.Formulas.{rastered}
use Rattle.client_picture.specs.declared.mix.Mix.{Mix}
use Rattle.client_picture.specs.Parts.{in_part}
use Rattle.client_picture.specs.Pictures.{brush_operand, source_operand}
use Rattle.client_picture.specs.Sources.{mixed_color}
use Rattle.client_picture.proofs.Paintings.{over_rect_is, unseen}
use Rattle.client_picture.proofs.rects.mix_rect.Goals as goal

pub returns-in-Some : goal.returns-in-Some
returns-in-Some c = let size = c.args.size in let old = c.args.pixels.now in let rect = c.args.rect in let pattern = brush_operand (option_copied c.args.brush) in
    let mix : Mix = record { depth = c.args.depth; rop = c.args.rop; brush = c.args.brush; texture = c.source_texture.result } in
    over_rect_is size (in_clip c.args.bounds) rect (rastered (client_colors_at c.args.depth) c.args.rop pattern (source_operand rect c.args.source)) old c.requires.canvas.sized
    (in_part c.in-Some.part) (mixed_color size old c.in-Some.part mix) c.mix_part.new.pixels c.mix_part.ensures (λ x y left above. c.in-Some.ensures.pixels x y left above)
    (λ x y left above h. ap (λ (s : Option ℕ). maybe_raster_at c.args.depth c.args.rop (pattern (pos x) (pos y)) s (pixel_at size old None x y)) (c.source_texture.ensures.colors x y h))

pub returns-in-None : goal.returns-in-None
returns-in-None c = unseen c.args.size (in_clip c.args.bounds) c.args.rect (rastered (client_colors_at c.args.depth) c.args.rop (brush_operand (option_copied c.args.brush)) (source_operand c.args.rect c.args.source)) c.args.pixels.now c.requires.canvas.sized
    (λ x y left above. c.in-None.ensures.pixels x y left above)
