use Rattle.std.proofs.Common.{◌≤◌, ◌<◌, ◌^◌, arith, rules}
use Rattle.std.proofs.Math.Nat.{pow-le-pow_right}
use Rattle.line_text.proofs.hexadecimal.read_hexadecimal.Goals as goal
use Rattle.std.proofs.lemmas.Grind.{common_steps}

pub with_hexadecimal_digit-requires : goal.with_hexadecimal_digit-requires
with_hexadecimal_digit-requires c =
    let some : 0 < 16 = omega arith in
    let few : c.loop-digit.digit-index ≤ 7 = omega arith in
    let bound : 16 ^ c.loop-digit.digit-index ≤ 16 ^ 7 = pow-le-pow_right some few in
    omega (arith, bound, c.loop-digit.invariant.small)

pub returns-clause-value : goal.returns-clause-value
returns-clause-value c = grind (arith, common_steps)

pub returns-clause-bound : goal.returns-clause-bound
returns-clause-bound c = search rules

pub returns-in_err-value-clause-value : goal.returns-in_err-value-clause-value
returns-in_err-value-clause-value c = grind (arith, common_steps)

pub loop-digit-preserved : goal.loop-digit-preserved
loop-digit-preserved c = grind (arith, common_steps)
