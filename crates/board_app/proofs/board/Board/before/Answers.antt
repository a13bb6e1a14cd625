use Rattle.std.proofs.Common.{refl}
use Rattle.std.specs.Prelude.{option_to_list}
use Rattle.board_app.specs.Boards.{board_of}
use Rattle.board_app.proofs.BeforeLemmas.{draws_alike}
use Rattle.board_app.proofs.board.Board.before.Goals as goal

pub returns : goal.returns
returns c = record {
  drawings = draws_alike c.args.self.now.size (board_of c.args.self.now) (option_to_list c.loaded_sign-sign.result) c.args.e c.loaded_sign-sign.ensures.same;
  signs = refl;
}
