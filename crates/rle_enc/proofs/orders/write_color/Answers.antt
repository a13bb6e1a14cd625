use Rattle.std.proofs.Common.{rules, arith}
use Rattle.rle_enc.proofs.orders.write_color.Goals as goal
use Rattle.std.proofs.lemmas.Grind.{common_steps}

pub returns-then-n-lt-NEXT_BYTE : goal.returns-then-n-lt-NEXT_BYTE
returns-then-n-lt-NEXT_BYTE c = search rules

pub returns : goal.returns
returns c = grind (arith, common_steps)
