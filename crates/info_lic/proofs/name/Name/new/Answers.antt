-- The bytes stand first, and zeros follow.
use Rattle.info_lic.proofs.Stored.{IsStored-written}
use Rattle.info_lic.proofs.name.Name.new.Goals as goal
use Rattle.std.proofs.Common.{arith}
use Rattle.std.proofs.lemmas.Grind.{common_steps}

pub invariant_of-result : goal.invariant_of-result
invariant_of-result c = rw c.copy_from_slice.ensures.after (IsStored-written _ c.requires)

pub returns : goal.returns
returns c = grind (arith, common_steps)
