use Rattle.std.proofs.Common.{arith}
use Rattle.std.proofs.lemmas.Grind.{common_steps}
use Rattle.wire_num.specs.FieldValue.{passing_at}
use Rattle.wire_num.proofs.cursor.Cursor.u16_be_up_to.Goals as goal

pub returns-then-left-lt2 : goal.returns-then-left-lt2
unfolding passing_at
returns-then-left-lt2 c = grind (arith, common_steps)

pub returns : goal.returns
unfolding passing_at
returns c = grind (arith, common_steps)
