use Rattle.edge_io.proofs.FindLemmas.{HandsOut-kept}
use Rattle.edge_io.proofs.laws.lines_stay.Goals as goal

pub returns : goal.returns
returns c = HandsOut-kept
