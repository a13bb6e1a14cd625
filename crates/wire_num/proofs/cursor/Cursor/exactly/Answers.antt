use Rattle.std.proofs.Common.{arith, rules}
use Rattle.std.proofs.lemmas.Grind.{common_steps}
use Rattle.wire_num.specs.Layout.{exactly_at}
use Rattle.wire_num.proofs.cursor.Cursor.exactly.Goals as goal

pub returns-clause-field : goal.returns-clause-field
unfolding exactly_at
returns-clause-field c = grind (arith, common_steps)

pub returns-clause-fits : goal.returns-clause-fits
unfolding exactly_at
returns-clause-fits c = search rules

pub returns-then-left-n-clause-field : goal.returns-then-left-n-clause-field
unfolding exactly_at
returns-then-left-n-clause-field c = grind (arith, common_steps)
