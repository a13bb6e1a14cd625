use Rattle.std.proofs.Common.{rules}
use Rattle.mcs_dom.proofs.ultimatum.write_end.Goals as goal

pub returns-clause-ok : goal.returns-clause-ok
returns-clause-ok c = search rules
