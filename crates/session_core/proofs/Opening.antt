-- What a session starts with.
use Rattle.std.proofs.Common.{◌≡◌, [], refl}
use Rattle.std.specs.Prelude.{IsTrue}
use Rattle.px_core.specs.declared.surface.Size.{Size}
use Rattle.px_core.specs.Rectangle.{is_session_size}
use Rattle.draw_ops.specs.Slots.{opening_surface}
use Rattle.board_app.specs.Boards.{board_of}
use Rattle.session_rules.specs.Board.{opening_board}
use Rattle.session_rules.specs.Journal.{Head}
use Rattle.session_core.specs.declared.standing.Standing.{Standing}
use Rattle.session_core.specs.Members.{viewers_of}
use Rattle.session_core.specs.SessionModel.{AreInvited}
use Rattle.session_core.specs.Standing.{IsOpening, IsSession}

pub opening_is : (size : Size) (s : Standing) → s.surface.size ≡ size → s.surface.state ≡ opening_surface size → s.board.size ≡ size → board_of s.board ≡ opening_board → s.members ≡ []
    → s.holder ≡ 0 → s.joins ≡ 0 → s.limited ≡ 0 → s.image_pixels ≡ 0 → IsOpening size s
opening_is size s surface state sized board nobody holder joins limited pixels = record {
  surface_size = surface;
  board_size = sized;
  nobody = nobody;
  reached = λ i. record {
    state = record { surface = state i; board = board i };
    viewers = viewers_of (nobody i);
    holder = holder i;
    length = 0;
    joins = joins i;
    limited = limited i;
    image_pixels = pixels i;
  };
}

pub opened : (head : Head) (s : Standing) → IsTrue (is_session_size head.size.w head.size.h) → AreInvited head.rows → IsOpening head.size s → IsSession head s []
opened head s size invited h = record {
  size = size;
  invited = invited;
  legal = refl;
  reached = h.reached;
  surface_size = h.surface_size;
  board_size = h.board_size;
  entries = tt;
}
