use Rattle.std.proofs.Common.{arith}
use Rattle.std.proofs.lemmas.Grind.{common_steps}
use Rattle.wire_num.proofs.Numbers.{length-little}
use Rattle.order_fields.proofs.write.put_value.Goals as goal

pub returns-in-Number-clause-few : goal.returns-in-Number-clause-few
returns-in-Number-clause-few c = grind (arith, common_steps, length-little)
