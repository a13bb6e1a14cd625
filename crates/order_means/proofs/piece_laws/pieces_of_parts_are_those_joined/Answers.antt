use Rattle.order_means.proofs.PieceJoined.{pieces_joined, joined, joined_from}
use Rattle.order_means.proofs.piece_laws.pieces_of_parts_are_those_joined.Goals as goal

pub returns : goal.returns
returns c = record { parts = pieces_joined; joined = joined; from = joined_from }
