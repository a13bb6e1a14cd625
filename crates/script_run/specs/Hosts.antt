-- What contracts see of a script's run in code.
use Rattle.std.specs.Prelude.{◌≡◌, ℕ, suc, ◌==◌, Bool, true, false, IsTrue, List, [], ◌∷◌, ◌++◌, if◌then◌else◌, ⊤}
use Rattle.std.specs.declared.option.Option.{Option}
use Rattle.std.specs.declared.option.Option.TheVariants.{Some, None}
use Rattle.std.specs.Option.{option_map}
use Rattle.px_core.specs.Rectangle.{is_session_size}
use Rattle.session_rules.specs.Journal.{Head, Row}
use Rattle.session_core.specs.SessionModel.{SessionModel, new_session, AreInvited}
use Rattle.viewer_sender.specs.Seats.{SeatModel}

-- whether a step was asked for, the session, and the seats of the viewers that are present
pub record HostModel : Type 0 where
  pub begun : Bool
  pub session : SessionModel
  pub seats : List SeatModel

-- the seat of a viewer
abbrev pub seat_of : ℕ → List SeatModel → Option SeatModel
seat_of v [] = None
seat_of v (s ∷ ss) = if s.sender.v == v then Some s else seat_of v ss

-- the place of a viewer's seat
abbrev pub place_of : ℕ → List SeatModel → Option ℕ
place_of v [] = None
place_of v (s ∷ ss) = if s.sender.v == v then Some 0 else option_map suc (place_of v ss)

-- before the first step the session is new
abbrev pub host_of : Head → Option HostModel → HostModel
host_of head None = record { begun = false; session = new_session head; seats = [] }
host_of head (Some running) = running

abbrev pub HasHead : Head → Option HostModel → Type 0
HasHead head None = ⊤
HasHead head (Some running) = (running.session.head ≡ head) × (running.begun ≡ true)

-- what holds of every run in code
pub record IsHost (head : Head) (running : Option HostModel) : Type 0 where
  pub size : IsTrue (is_session_size head.size.w head.size.h)
  pub rows : AreInvited head.rows
  pub same : HasHead head running

-- a session's head with one more row
abbrev pub with_invited : Head → Row → Head
with_invited head row = record head { rows = head.rows ++ row ∷ [] }
