use Rattle.std.proofs.Common.{arith}
use Rattle.std.proofs.lemmas.Grind.{common_steps}
use Rattle.wire_num.specs.FieldValue.{passing_at}
use Rattle.wire_num.proofs.cursor.Cursor.u8_with.Goals as goal

pub returns-then-is_empty : goal.returns-then-is_empty
unfolding passing_at
returns-then-is_empty c = grind (arith, common_steps)

pub returns : goal.returns
unfolding passing_at
returns c = grind (arith, common_steps)
