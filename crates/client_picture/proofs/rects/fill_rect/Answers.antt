use Rattle.std.proofs.Common.{refl}
use Rattle.std.specs.Prelude.{Some}
use Rattle.px_core.specs.Rectangle.{in_clip}
use Rattle.rop3_core.specs.Palette.{client_colors}
use Rattle.draw_ops.specs.Formulas.{solid}
use Rattle.client_picture.specs.Parts.{in_part}
use Rattle.client_picture.proofs.Paintings.{over_rect_is, unseen}
use Rattle.client_picture.proofs.rects.fill_rect.Goals as goal

pub returns-in-Some : goal.returns-in-Some
returns-in-Some c = over_rect_is c.args.size (in_clip c.args.bounds) c.args.rect (solid client_colors c.args.color) c.args.pixels.now c.requires.canvas.sized
    (in_part c.in-Some.part) (λ x y. Some c.args.color) c.fill_part.new.pixels c.fill_part.ensures (λ x y left above. (rw c.in-Some.is at c.requires.seen) x y left above) (λ x y left above h. refl)

pub returns-in-None : goal.returns-in-None
returns-in-None c = unseen c.args.size (in_clip c.args.bounds) c.args.rect (solid client_colors c.args.color) c.args.pixels.now c.requires.canvas.sized
    (λ x y left above. (rw c.in-None.is at c.requires.seen) x y left above)
