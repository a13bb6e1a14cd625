use Rattle.std.proofs.Common.{ap, sym, ◌∙◌}
use Rattle.std.specs.Prelude.{Some, None}
use Rattle.px_core.specs.Picture.{pixel_at}
use Rattle.px_core.specs.Rectangle.{in_clip}
use Rattle.px_core.specs.declared.depth.Depth.TheVariants.{Bits24}
use Rattle.rop3_core.specs.Palette.{client_colors}
use Rattle.draw_ops.specs.Formulas.{replaced, imaged}
use Rattle.client_picture.specs.declared.mix.Mix.{Mix}
use Rattle.client_picture.specs.Parts.{in_part}
use Rattle.client_picture.specs.Pictures.{source_rows}
use Rattle.client_picture.specs.Sources.{texture_color, mixed_color}
use Rattle.client_picture.proofs.CopyCode.{copied_is, low_is}
use Rattle.client_picture.proofs.Paintings.{over_rect_is, unseen}
use Rattle.client_picture.proofs.rects.write_rect.Goals as goal

pub returns-in-Some : goal.returns-in-Some
returns-in-Some c = let size = c.args.size in let old = c.args.pixels.now in let s = c.args.source in let p = c.in-Some.part in let t = c.texture_of.result in
    let mix : Mix = record { depth = Bits24; rop = 204; brush = None; texture = Some t } in
    over_rect_is size (in_clip c.args.bounds) c.args.rect (replaced (imaged client_colors (source_rows s) c.args.rect s.sx s.sy)) old c.requires.canvas.sized
    (in_part p) (mixed_color size old p mix) c.mix_part.new.pixels c.mix_part.ensures (λ x y left above. c.in-Some.ensures.pixels x y left above)
    (λ x y left above h. sym (copied_is (Some 0) (Some (texture_color p t x y)) (pixel_at size old None x y))
    ∙ ap Some (low_is (texture_color p t x y) (c.texture_of.ensures.bound c.requires.colors x y) ∙ c.texture_of.ensures.colors x y h))

pub returns-in-None : goal.returns-in-None
returns-in-None c = let s = c.args.source in
    unseen c.args.size (in_clip c.args.bounds) c.args.rect (replaced (imaged client_colors (source_rows s) c.args.rect s.sx s.sy)) c.args.pixels.now c.requires.canvas.sized
    (λ x y left above. c.in-None.ensures.pixels x y left above)
