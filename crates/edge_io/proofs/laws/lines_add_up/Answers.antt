use Rattle.edge_io.proofs.FindLemmas.{HandsOut-more}
use Rattle.edge_io.proofs.laws.lines_add_up.Goals as goal

pub returns : goal.returns
returns c = HandsOut-more
