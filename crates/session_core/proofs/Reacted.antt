-- What the session keeps of a reaction.
use Rattle.std.proofs.Common.{◌≡◌, ◌≤◌, ℕ, List, [], ◌∷◌, length, refl, sym, subst, ◌∙◌, arith}
use Rattle.std.specs.Prelude.{IsTrue, All}
use Rattle.px_core.specs.Rectangle.{is_session_size}
use Rattle.draw_ops.specs.declared.shape.Drawing.{Drawing}
use Rattle.draw_ops.specs.Fits.{AllFitState}
use Rattle.draw_ops.specs.Ranges.{HasColors}
use Rattle.input_pdu.specs.declared.event.Event.{Event}
use Rattle.px_core.specs.declared.surface.Size.{Size}
use Rattle.board_app.specs.declared.board.Board.{Board}
use Rattle.std.specs.Box.{box_value}
use Rattle.board_app.specs.Boards.{board_of}
use Rattle.board_app.specs.Before.{MakesAgain}
use Rattle.session_rules.specs.declared.entry.Entry.TheVariants.{Input}
use Rattle.session_rules.specs.Agreement.{BoardAgrees}
use Rattle.session_rules.specs.Board.{board_reaction}
use Rattle.session_rules.specs.Journal.{Head}
use Rattle.session_rules.specs.Pending.{pending_drawings}
use Rattle.session_rules.proofs.Fitting.{sides_of}
use Rattle.session_rules.proofs.BoardReactions.{board_reacts}
use Rattle.session_rules.proofs.Reactions.{reaction_colored}
use Rattle.session_core.specs.declared.standing.Standing.{Standing}
use Rattle.session_core.specs.declared.events.Reaction.{Reaction as ReactionOf}
use Rattle.session_core.specs.declared.shown.ShownList.{ShownList}
use Rattle.session_core.specs.declared.shown.ShownList.TheVariants.{Nothing, One, Plain, Reaction}
use Rattle.session_core.specs.Keeping.{IsBoardKept, IsKept}
use Rattle.session_core.specs.Reacting.{Reacts}
use Rattle.session_core.specs.Putting.{IsFound}
use Rattle.session_core.specs.Showing.{all_shown, shown_list, board_found}
use Rattle.session_core.specs.Standing.{reached_of}
use Rattle.session_core.proofs.Colored.{all_colored}
use Rattle.session_core.proofs.PendingLaws.{enough}

pub reaction_fits : (s : Standing) (e : Event) (r : ReactionOf) (ds : List Drawing) → IsTrue (is_session_size s.surface.size.w s.surface.size.h) → BoardAgrees s.surface.size s.surface.state (board_of s.board)
    → Reacts s e r → ds ≡ r.drawings.items → AllFitState s.surface.size s.surface.state ds
reaction_fits s e r ds size agrees h is = subst (AllFitState s.surface.size s.surface.state) (sym (is ∙ h.drawings))
    (board_reacts s.surface.size s.surface.state (board_of s.board) e (sides_of s.surface.size.w s.surface.size.h size) agrees).0

pub reaction_colors : (s : Standing) (e : Event) (r : ReactionOf) (ds : List Drawing) → Reacts s e r → ds ≡ r.drawings.items → All HasColors ds
reaction_colors s e r ds h is = subst (All HasColors) (sym (is ∙ h.drawings)) (all_colored _ (reaction_colored s.surface.size (board_of s.board) e))

none_left : (ds : List Drawing) → length ds ≤ 0 → ds ≡ []
none_left [] h = refl
none_left (d ∷ ds) h = absurd (omega (arith, h))

board_kept : (size : Size) (board : Board) (by : ℕ) (e : Event) (list : ShownList) → board.size ≡ size → IsFound board e list → length (board_reaction size (board_of board) e).drawings ≤ length (shown_list list)
    → IsBoardKept size (board_of board) (Input by e) list
board_kept size board by e Nothing sized h few = none_left (board_reaction size (board_of board) e).drawings few
board_kept size board by e (One shown) sized h few = absurd h
board_kept size board by e (Plain before) sized h few = subst (λ z. MakesAgain z (board_of board) e before) sized h
board_kept size board by e (Reaction found) sized h few = subst (λ z. MakesAgain z (board_of board) e (board_found (box_value found))) sized h

-- the entry of an event is kept with the board that it found and with what its drawings show
pub reaction_kept : (head : Head) (s : Standing) (n by first : ℕ) (e : Event) (r : ReactionOf) → s.surface.size ≡ head.size → s.board.size ≡ head.size → Reacts s e r → first ≡ s.surface.state.count
    → IsKept head.size (reached_of s n).state (record { entry = Input by e; first = first; shown = r.shown })
reaction_kept head s n by first e r surface board h count =
    let shown = subst (λ z. all_shown (board_reaction z (board_of s.board) e).drawings (shown_list r.shown) ≡ pending_drawings z s.surface.state (board_reaction z (board_of s.board) e).drawings) surface
    (subst (λ ds. all_shown ds (shown_list r.shown) ≡ pending_drawings s.surface.size s.surface.state ds) h.drawings h.shown) in
    record {
      first = count;
      board = board_kept head.size s.board by e r.shown board h.found (enough head.size s.surface.state (board_reaction head.size (board_of s.board) e).drawings (shown_list r.shown) shown);
      shown = shown;
    }
