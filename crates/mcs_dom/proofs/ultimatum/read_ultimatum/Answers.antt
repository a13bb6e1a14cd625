use Rattle.std.proofs.Common.{rules}
use Rattle.mcs_dom.specs.Ultimatum.{ultimatum}
use Rattle.mcs_dom.proofs.ultimatum.read_ultimatum.Goals as goal

pub returns : goal.returns
unfolding ultimatum
returns c = search rules
