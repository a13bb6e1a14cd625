use Rattle.draw_ops.proofs.Changed.{form_follows, picture_follows, session_changes, client_changes}
use Rattle.draw_ops.proofs.depth_laws.drawing_over_what_is_shown_is_what_is_shown_of_drawing.Goals as goal

pub returns : goal.returns
returns c = record {
  pixel = λ d form. form_follows _ _ _ _ form (session_changes d);
  picture = λ d size area form old. picture_follows _ size area _ _ old (form_follows _ _ _ _ form (session_changes d));
  client_pixel = λ d form. form_follows _ _ _ _ form (client_changes d);
  client_picture = λ d size area form old. picture_follows _ size area _ _ old (form_follows _ _ _ _ form (client_changes d));
}
