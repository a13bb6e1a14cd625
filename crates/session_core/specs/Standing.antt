-- What a session has reached, as it is kept, and what holds of every session.
use Rattle.std.specs.Prelude.{◌≡◌, ℕ, ◌+◌, ◌≤◌, IsTrue, List, [], length, Option}
use Rattle.px_core.specs.declared.surface.Size.{Size}
use Rattle.px_core.specs.Rectangle.{is_session_size}
use Rattle.board_app.specs.Boards.{board_of}
use Rattle.session_rules.specs.Journal.{Head, Reached, opening_state, reached_at_first, reached_after, IsLegalJournal}
use Rattle.session_core.specs.Marking.{Marked, AreMarked}
use Rattle.session_core.specs.declared.standing.Standing.{Standing}
use Rattle.session_core.specs.declared.kept.Kept.{Kept}
use Rattle.session_core.specs.Members.{viewers_of}
use Rattle.session_core.specs.SessionModel.{AreInvited}
use Rattle.session_core.specs.Keeping.{journal_of, AllKept}
use Rattle.session_rules.specs.Typing.{last_typed}

-- what is reached after so many entries
abbrev pub reached_of : Standing → ℕ → Reached
reached_of s n = record {
  state = record { surface = s.surface.state; board = board_of s.board };
  viewers = viewers_of s.members;
  holder = s.holder;
  length = n;
  joins = s.joins;
  limited = s.limited;
  image_pixels = s.image_pixels;
}

-- what a session of a size starts with
pub record IsOpening (size : Size) (s : Standing) : Type 0 where
  pub surface_size : s.surface.size ≡ size
  pub board_size : s.board.size ≡ size
  pub nobody : s.members ≡ []
  pub reached : reached_of s 0 ≡ reached_at_first size

-- the journal is legal, what is kept as reached is what it reaches, and each of its entries is kept as it should be
pub record IsSession (head : Head) (s : Standing) (kept : List Kept) : Type 0 where
  pub size : IsTrue (is_session_size head.size.w head.size.h)
  pub invited : AreInvited head.rows
  pub legal : IsLegalJournal head (journal_of kept)
  pub reached : reached_of s (length kept) ≡ reached_after head.size (reached_at_first head.size) (journal_of kept)
  pub surface_size : s.surface.size ≡ head.size
  pub board_size : s.board.size ≡ head.size
  pub entries : AllKept head.size (opening_state head.size) kept

-- likewise, with room for the leave of each viewer, with marks that tell what the drawings behind each front of the journal touch, and
-- with the code that the journal typed last
pub record IsOpen (head : Head) (s : Standing) (kept : List Kept) (marks : Marked) (typed : Option ℕ) (count room : ℕ) : Type 0 where
  pub is_session : IsSession head s kept
  pub room_left : count + length s.members ≤ room
  pub marked : AreMarked head.size (journal_of kept) marks
  pub typed_last : typed ≡ last_typed (journal_of kept)
