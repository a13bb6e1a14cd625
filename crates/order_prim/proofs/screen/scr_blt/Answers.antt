use Rattle.std.proofs.Common.{arith, rules}
use Rattle.std.proofs.lemmas.Grind.{common_steps}
use Rattle.std.proofs.lemmas.Int.{to_z-of_z}
use Rattle.order_prim.proofs.screen.scr_blt.Goals as goal

pub returns : goal.returns
returns c = grind (arith, common_steps, to_z-of_z)

pub plain-requires : goal.plain-requires
plain-requires c = search rules
