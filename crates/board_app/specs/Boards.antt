-- What the board is seen as: the record of its definitions; and what a row of its table makes.
use Rattle.std.specs.Prelude.{◌≡◌, option_map}
use Rattle.px_core.specs.declared.surface.Size.{Size}
use Rattle.session_rules.specs.Board.{Board as BoardState, Point as PointState, Reaction}
use Rattle.board_app.specs.declared.board.Board.{Board}
use Rattle.board_app.specs.declared.board.Point.{Point}
use Rattle.board_app.specs.declared.reaction.Reacted.{Reacted}
use Rattle.board_app.specs.Loaded.{loaded_codes}

abbrev pub point_of : Point → PointState
point_of p = record { x = p.x; y = p.y }

abbrev pub board_of : Board → BoardState
board_of b = record {
  ink = b.ink;
  pen = option_map point_of b.pen;
  last = point_of b.last;
  popup = option_map point_of b.popup;
  signs = b.signs;
  brush_loaded = b.is_brush_loaded;
  image_loaded = b.is_image_loaded;
  glyphs_loaded = loaded_codes b.loaded;
}

-- a reaction is made as the table says, and the session keeps its size
pub record Makes (size : Size) (reacted : Reacted) (reaction : Reaction) : Type 0 where
  pub board : board_of reacted.board ≡ reaction.board
  pub drawings : reacted.drawings.items ≡ reaction.drawings
  pub sized : reacted.board.size ≡ size
