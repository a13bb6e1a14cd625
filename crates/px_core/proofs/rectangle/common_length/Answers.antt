use Rattle.std.proofs.Common.{pos, ◌+ℤ◌, ◌-ℤ◌, arith}
use Rattle.std.specs.Int.{int_max, int_min}
use Rattle.std.proofs.lemmas.Int.{ints, clamps, to_z-of_z}
use Rattle.px_core.proofs.Lengths.{nat_of_is, nat_of_none}
use Rattle.px_core.proofs.rectangle.common_length.Goals as goal

pub overflow_cast-result : goal.overflow_cast-result
overflow_cast-result c = grind (arith, ints, clamps, to_z-of_z)

pub returns-then-from-end : goal.returns-then-from-end
returns-then-from-end c =
    nat_of_is (int_min (c.args.a +ℤ pos c.args.m) (c.args.b +ℤ pos c.args.n) -ℤ int_max c.args.a c.args.b) _ (grind (arith, ints, clamps, to_z-of_z))

pub returns-else-from-end : goal.returns-else-from-end
returns-else-from-end c =
    nat_of_none (int_min (c.args.a +ℤ pos c.args.m) (c.args.b +ℤ pos c.args.n) -ℤ int_max c.args.a c.args.b) (grind (arith, ints, clamps, to_z-of_z))
