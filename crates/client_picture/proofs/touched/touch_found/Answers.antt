use Rattle.px_core.specs.Picture.{both}
use Rattle.px_core.specs.Rectangle.{in_rect, in_clip}
use Rattle.client_picture.proofs.Flags.{adds_rows, widens}
use Rattle.client_picture.proofs.touched.touch_found.Goals as goal

pub returns-clause-rows : goal.returns-clause-rows
returns-clause-rows c = adds_rows c.args.size (both (in_clip c.args.bounds) (in_rect c.args.rect)) c.args.part c.args.touched.now c.touch_part.new.touched c.touch_part.ensures c.requires.seen

pub returns-clause-frame : goal.returns-clause-frame
returns-clause-frame c = widens c.args.size (both (in_clip c.args.bounds) (in_rect c.args.rect)) c.args.part c.args.frame.now c.widened.result c.requires.inside c.widened.ensures.within c.widened.ensures.pixels c.requires.seen
