use Rattle.draw_ops.proofs.Rows.{pixels_make_picture}
use Rattle.draw_ops.proofs.laws.drawn_pixels_are_the_picture.Goals as goal

pub returns : goal.returns
returns c = pixels_make_picture
