use Rattle.std.proofs.Common.{rules, subst, sym}
use Rattle.px_core.specs.Rectangle.{IsPlaced}
use Rattle.px_core.proofs.Lengths.{common_placed}
use Rattle.px_core.proofs.rectangle.common.Goals as goal

pub returns-clause-common : goal.returns-clause-common
returns-clause-common c = search rules

pub returns-clause-placed : goal.returns-clause-placed
returns-clause-placed c = λ h k. subst IsPlaced (sym (returns-clause-common c)) (common_placed c.args.a c.args.b h k)
