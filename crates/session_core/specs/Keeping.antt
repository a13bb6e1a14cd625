-- What is kept of a journal's entries.
use Rattle.std.specs.Prelude.{◌≡◌, List, [], ◌∷◌, ⊤, map}
use Rattle.std.specs.Box.{box_value}
use Rattle.px_core.specs.declared.surface.Size.{Size}
use Rattle.board_app.specs.Before.{MakesAgain}
use Rattle.session_rules.specs.declared.entry.Entry.{Entry}
use Rattle.session_rules.specs.declared.entry.Entry.TheVariants.{Join, Leave, Give, Input, Draw}
use Rattle.session_rules.specs.Board.{Board, board_reaction}
use Rattle.session_rules.specs.Journal.{State, drawings_of, state_after_entry}
use Rattle.session_rules.specs.Pending.{pending_drawings}
use Rattle.session_core.specs.declared.kept.Kept.{Kept}
use Rattle.session_core.specs.declared.shown.ShownList.{ShownList}
use Rattle.session_core.specs.declared.shown.ShownList.TheVariants.{Nothing, One, Plain, Reaction}
use Rattle.session_core.specs.Showing.{all_shown, shown_list, board_found}

abbrev pub journal_of : List Kept → List Entry
journal_of ks = map (λ (k : Kept). k.entry) ks

-- with an input whose reaction draws, what its drawings depend on is kept, so that they can be made again
abbrev pub IsBoardKept : Size → Board → Entry → ShownList → Type 0
IsBoardKept size b (Join v role) kept = ⊤
IsBoardKept size b (Leave v) kept = ⊤
IsBoardKept size b (Give by to) kept = ⊤
IsBoardKept size b (Draw by d) kept = ⊤
IsBoardKept size b (Input by event) Nothing = (board_reaction size b event).drawings ≡ []
IsBoardKept size b (Input by event) (One shown) = ⊥
IsBoardKept size b (Input by event) (Plain board) = MakesAgain size b event board
IsBoardKept size b (Input by event) (Reaction found) = MakesAgain size b event (board_found (box_value found))

-- an entry is kept with the number of the drawings before it, and with what each of its own drawings shows
pub record IsKept (size : Size) (st : State) (k : Kept) : Type 0 where
  pub first : k.first ≡ st.surface.count
  pub board : IsBoardKept size st.board k.entry k.shown
  pub shown : all_shown (drawings_of size st.board k.entry) (shown_list k.shown) ≡ pending_drawings size st.surface (drawings_of size st.board k.entry)

-- so is each of some entries after a state
abbrev pub AllKept : Size → State → List Kept → Type 0
AllKept size st [] = ⊤
AllKept size st (k ∷ ks) = IsKept size st k × AllKept size (state_after_entry size st k.entry) ks
