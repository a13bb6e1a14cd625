use Rattle.std.proofs.Common.{arith}
use Rattle.std.proofs.lemmas.Grind.{common_steps}
use Rattle.wire_num.proofs.cursor.Cursor.u32_le.Goals as goal

pub returns : goal.returns
returns c = grind (arith, common_steps)

pub returns-then-left-lt4 : goal.returns-then-left-lt4
returns-then-left-lt4 c = grind (arith, common_steps)
