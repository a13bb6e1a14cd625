use Rattle.std.proofs.Common.{◌∙◌, rules}
use Rattle.mcs_ber.proofs.Within.{at_end}
use Rattle.mcs_ber.proofs.Parameters.{one_integer}
use Rattle.mcs_ber.proofs.domain_parameters.read_integers.Goals as goal

pub loop-preserved : goal.loop-preserved
loop-preserved c =
    let read = c.in_ok-read_integer.ensures in
    (one_integer c.loop.counter _ _ c.loop-test.true read.0 ∙ c.loop.invariant.0, read.1 ∙ c.loop.invariant.1)

pub returns-clause-end : goal.returns-clause-end
returns-clause-end c = at_end c.end.result c.loop.cursor c.end.ensures

pub returns-clause-fields : goal.returns-clause-fields
returns-clause-fields c = search rules
