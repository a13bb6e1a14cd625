use Rattle.std.proofs.Common.{arith}
use Rattle.std.proofs.lemmas.Grind.{common_steps}
use Rattle.wire_num.proofs.cursor.Cursor.per_len.Goals as goal

pub returns-in-128-to-191 : goal.returns-in-128-to-191
returns-in-128-to-191 c = grind (arith, common_steps)

pub returns-in-0-to-127 : goal.returns-in-0-to-127
returns-in-0-to-127 c = grind (arith, common_steps)

pub returns-in_default : goal.returns-in_default
returns-in_default c = grind (arith, common_steps)
