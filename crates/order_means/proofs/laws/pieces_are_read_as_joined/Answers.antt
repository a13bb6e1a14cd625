use Rattle.order_means.proofs.Pieces.{read_joined}
use Rattle.order_means.proofs.laws.pieces_are_read_as_joined.Goals as goal

pub returns : goal.returns
returns c = read_joined
