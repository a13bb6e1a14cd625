-- What is kept of a board for one event, and what is made of it again.
use Rattle.std.specs.Prelude.{◌≡◌, option_map, option_to_list}
use Rattle.px_core.specs.declared.surface.Size.{Size}
use Rattle.input_pdu.specs.declared.event.Event.{Event}
use Rattle.session_rules.specs.Board.{Board as BoardState, board_reaction}
use Rattle.board_app.specs.declared.before.BoardBefore.{BoardBefore}
use Rattle.board_app.specs.Boards.{point_of}

-- a board of which only the sign that the event writes is known to be loaded
abbrev pub board_before : BoardBefore → BoardState
board_before b = record {
  ink = b.ink;
  pen = option_map point_of b.pen;
  last = point_of b.last;
  popup = option_map point_of b.popup;
  signs = b.signs;
  brush_loaded = b.is_brush_loaded;
  image_loaded = b.is_image_loaded;
  glyphs_loaded = option_to_list b.sign;
}

-- an event makes the same drawings of what is kept as of the board, and as many signs were written
pub record MakesAgain (size : Size) (b : BoardState) (e : Event) (kept : BoardBefore) : Type 0 where
  pub drawings : (board_reaction size (board_before kept) e).drawings ≡ (board_reaction size b e).drawings
  pub signs : kept.signs ≡ b.signs
