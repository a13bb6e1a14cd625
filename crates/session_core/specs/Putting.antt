-- The drawings of a reaction that are made again.
use Rattle.std.specs.Prelude.{◌<◌, ◌^◌, ◌-◌, ⊤, List, []}
use Rattle.std.specs.Box.{box_value}
use Rattle.px_core.specs.declared.surface.Size.{Size}
use Rattle.draw_ops.specs.declared.shape.Drawing.{Drawing}
use Rattle.input_pdu.specs.declared.event.Event.{Event}
use Rattle.board_app.specs.declared.board.Board.{Board}
use Rattle.board_app.specs.Boards.{board_of}
use Rattle.board_app.specs.Before.{board_before, MakesAgain}
use Rattle.session_rules.specs.Board.{board_reaction}
use Rattle.session_core.specs.declared.shown.ShownList.{ShownList}
use Rattle.session_core.specs.declared.shown.ShownList.TheVariants.{Nothing, One, Plain, Reaction}
use Rattle.session_core.specs.Showing.{board_found}

abbrev pub drawings_made : Size → ShownList → Event → List Drawing
drawings_made size Nothing e = []
drawings_made size (One shown) e = []
drawings_made size (Plain board) e = (board_reaction size (board_before board) e).drawings
drawings_made size (Reaction found) e = (board_reaction size (board_before (board_found (box_value found))) e).drawings

-- the board counts its signs in its numbers' range
abbrev pub IsBoardReady : ShownList → Type 0
IsBoardReady Nothing = ⊤
IsBoardReady (One shown) = ⊤
IsBoardReady (Plain board) = board.signs < 2 ^ 32 - 1
IsBoardReady (Reaction found) = (board_found (box_value found)).signs < 2 ^ 32 - 1

-- of what is kept of a board's reaction to an event its drawings are made again, where it has anything
abbrev pub IsFound : Board → Event → ShownList → Type 0
IsFound board e Nothing = ⊤
IsFound board e (One shown) = ⊥
IsFound board e (Plain before) = MakesAgain board.size (board_of board) e before
IsFound board e (Reaction found) = MakesAgain board.size (board_of board) e (board_found (box_value found))
