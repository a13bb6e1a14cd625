use Rattle.edge_io.proofs.FindLemmas.{HandsOut-all}
use Rattle.edge_io.proofs.laws.lines_are_all.Goals as goal

pub returns : goal.returns
returns c = HandsOut-all
