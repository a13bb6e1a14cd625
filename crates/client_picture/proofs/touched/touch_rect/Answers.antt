use Rattle.px_core.specs.Picture.{both}
use Rattle.px_core.specs.Rectangle.{in_rect, in_clip}
use Rattle.client_picture.proofs.Flags.{adds_rows, widens}
use Rattle.client_picture.proofs.touched.touch_rect.Goals as goal

pub returns-clause-rows : goal.returns-clause-rows
returns-clause-rows c = adds_rows c.args.size (both (in_clip c.args.bounds) (in_rect c.args.rect)) c.part_of-part.result c.args.touched.now c.touch_part.new.touched c.touch_part.ensures c.part_of-part.ensures.pixels

pub returns-clause-frame : goal.returns-clause-frame
returns-clause-frame c = widens c.args.size (both (in_clip c.args.bounds) (in_rect c.args.rect)) c.part_of-part.result c.args.frame.now c.widened.result c.part_of-part.ensures.inside c.widened.ensures.within c.widened.ensures.pixels c.part_of-part.ensures.pixels
