use Rattle.order_means.proofs.Pieces.{cut_joined}
use Rattle.order_means.proofs.laws.updates_of_pieces_are_those_joined.Goals as goal

pub returns : goal.returns
returns c = cut_joined
