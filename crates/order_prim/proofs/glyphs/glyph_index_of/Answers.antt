use Rattle.std.proofs.Common.{arith}
use Rattle.std.proofs.lemmas.Grind.{common_steps}
use Rattle.std.proofs.lemmas.Int.{to_z-of_z}
use Rattle.order_prim.proofs.glyphs.glyph_index_of.Goals as goal

pub holding-requires : goal.holding-requires
holding-requires c = grind (arith, common_steps, to_z-of_z)

pub returns : goal.returns
returns c = grind (arith, common_steps, to_z-of_z)
