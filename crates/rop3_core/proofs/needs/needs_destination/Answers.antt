-- The test on the whole code is that on its pairs of bits, which decides dependence.
use Rattle.std.proofs.Common.{sym, ◌∙◌}
use Rattle.rop3_core.proofs.NeedLaws.{destination_test, destination_decides}
use Rattle.rop3_core.proofs.needs.needs_destination.Goals as goal

pub returns : goal.returns
returns c =
    let same = destination_test c.args.code c.ranges.code.fits in
    let decides = destination_decides c.args.code in
    record { dependence = (λ yes. decides.0 (sym same ∙ yes), λ w. same ∙ decides.1 w); bits = same }
