use Rattle.std.proofs.Common.{arith, rules}
use Rattle.std.proofs.lemmas.Grind.{common_steps}
use Rattle.share_pdu.proofs.finals.write_final.Goals as goal

pub returns-in-Granted-clause-ok : goal.returns-in-Granted-clause-ok
returns-in-Granted-clause-ok c = grind (arith, common_steps)

pub returns-in-Granted-clause-memory : goal.returns-in-Granted-clause-memory
returns-in-Granted-clause-memory c = search rules

pub returns-in-Synchronize-clause-ok : goal.returns-in-Synchronize-clause-ok
returns-in-Synchronize-clause-ok c = grind (arith, common_steps)

pub returns-in-Synchronize-clause-memory : goal.returns-in-Synchronize-clause-memory
returns-in-Synchronize-clause-memory c = search rules
