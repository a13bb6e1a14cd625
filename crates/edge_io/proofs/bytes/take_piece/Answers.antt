use Rattle.std.proofs.Common.{rules}
use Rattle.edge_io.proofs.bytes.take_piece.Goals as goal

pub returns-in-Some-clause-size : goal.returns-in-Some-clause-size
returns-in-Some-clause-size c = search rules
