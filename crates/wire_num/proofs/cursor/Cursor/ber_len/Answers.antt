use Rattle.std.proofs.Common.{arith}
use Rattle.std.proofs.lemmas.Grind.{common_steps}
use Rattle.wire_num.proofs.cursor.Cursor.ber_len.Goals as goal

pub returns-in_default : goal.returns-in_default
returns-in_default c = grind (arith, common_steps)

pub returns-in-130 : goal.returns-in-130
returns-in-130 c = grind (arith, common_steps)

pub returns-in-129 : goal.returns-in-129
returns-in-129 c = grind (arith, common_steps)

pub returns-in-0-to-127 : goal.returns-in-0-to-127
returns-in-0-to-127 c = grind (arith, common_steps)
