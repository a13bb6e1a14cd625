use Rattle.std.proofs.Common.{refl}
use Rattle.px_core.specs.Rectangle.{in_clip}
use Rattle.rop3_core.specs.Palette.{session_colors}
use Rattle.draw_ops.specs.Formulas.{solid}
use Rattle.surface_parts.specs.Parts.{in_part}
use Rattle.surface_parts.proofs.Paintings.{over_rect_is, unseen}
use Rattle.surface_parts.proofs.rects.fill_rect.Goals as goal

pub returns-in-Some : goal.returns-in-Some
returns-in-Some c = over_rect_is c.args.window.size (in_clip c.args.window.clip) c.args.rect (solid session_colors c.args.color) c.args.pixels.now c.requires.canvas.sized
    (in_part c.in-Some.part) (λ x y. c.args.color) c.fill_part.new.pixels c.fill_part.ensures (λ x y left above. c.in-Some.ensures.pixels x y left above) (λ x y left above h. refl)

pub returns-in-None : goal.returns-in-None
returns-in-None c = unseen c.args.window.size (in_clip c.args.window.clip) c.args.rect (solid session_colors c.args.color) c.args.pixels.now c.requires.canvas.sized
    (λ x y left above. c.in-None.ensures.pixels x y left above)
