use Rattle.std.proofs.Common.{subst}
use Rattle.px_core.specs.Rectangle.{IsPlacedClip}
use Rattle.px_core.proofs.rectangle.clipped.Goals as goal

pub returns-in-Some-clause-placed : goal.returns-in-Some-clause-placed
returns-in-Some-clause-placed c = λ h k. c.common.ensures.placed h (subst IsPlacedClip c.in-Some.is k)
