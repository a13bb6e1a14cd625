use Rattle.draw_ops.proofs.Shapes.{form_is, picture_shown}
use Rattle.draw_ops.proofs.depth_laws.drawings_of_what_is_shown_are_shown.Goals as goal

pub returns : goal.returns
returns c = record { form = form_is; picture = picture_shown }
