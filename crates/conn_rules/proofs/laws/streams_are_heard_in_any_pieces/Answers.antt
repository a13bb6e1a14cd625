use Rattle.conn_rules.proofs.Pieces.{heard_then, pieces_are_joined}
use Rattle.conn_rules.proofs.laws.streams_are_heard_in_any_pieces.Goals as goal

pub returns-clause-pieces : goal.returns-clause-pieces
returns-clause-pieces c = pieces_are_joined

pub returns-clause-two : goal.returns-clause-two
returns-clause-two c = heard_then
