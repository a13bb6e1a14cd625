-- What comes of input events.
use Rattle.std.specs.Prelude.{◌≡◌, ℕ, false, None, Result, Ok, Err}
use Rattle.input_pdu.specs.declared.event.Event.{Event}
use Rattle.board_app.specs.Boards.{board_of}
use Rattle.session_rules.specs.declared.entry.Entry.TheVariants.{Give, Input}
use Rattle.session_rules.specs.Board.{board_reaction}
use Rattle.session_rules.specs.Journal.{Head, Reached, is_f12, refusal_of}
use Rattle.session_rules.specs.Steps.{receiver_of}
use Rattle.session_rules.specs.Pending.{pending_drawings}
use Rattle.session_core.specs.declared.faults.InputRefusal.{InputRefusal}
use Rattle.session_core.specs.declared.standing.Standing.{Standing}
use Rattle.session_core.specs.declared.events.Reaction.{Reaction}
use Rattle.session_core.specs.Refusing.{input_refusal, IsInputRefused}
use Rattle.session_core.specs.Putting.{IsFound}
use Rattle.session_core.specs.Showing.{all_shown, shown_list}

-- the viewer to whom control is given, which is legal; else the refusal
abbrev pub IsGiveRefused : Head → Reached → ℕ → Result ℕ InputRefusal → Type 0
IsGiveRefused head r v (Ok to) = (to ≡ receiver_of r v) × (refusal_of head r (Give v to) ≡ None)
IsGiveRefused head r v (Err why) = (refusal_of head r (Give v (receiver_of r v)) ≡ input_refusal why) × ((input_refusal why ≡ None) → ⊥)

-- an event that isn't F12 is legal, else refused just so
abbrev pub IsReactRefused : Head → Reached → ℕ → Event → Result (Unit {0}) InputRefusal → Type 0
IsReactRefused head r v event result = is_f12 event ≡ false → IsInputRefused result (refusal_of head r (Input v event))

-- a reaction is the board's, and what its drawings show is what they find
pub record Reacts (s : Standing) (e : Event) (reaction : Reaction) : Type 0 where
  pub found : IsFound s.board e reaction.shown
  pub drawings : reaction.drawings.items ≡ (board_reaction s.surface.size (board_of s.board) e).drawings
  pub board : board_of reaction.board ≡ (board_reaction s.surface.size (board_of s.board) e).board
  pub sized : reaction.board.size ≡ s.board.size
  pub shown : all_shown reaction.drawings.items (shown_list reaction.shown) ≡ pending_drawings s.surface.size s.surface.state reaction.drawings.items
