use Rattle.std.proofs.Common.{arith}
use Rattle.std.proofs.lemmas.Grind.{common_steps}
use Rattle.rle_enc.proofs.counts.is_alone.Goals as goal

pub returns-then-pixels-lt2-clause-no_background : goal.returns-then-pixels-lt2-clause-no_background
returns-then-pixels-lt2-clause-no_background c = grind (arith, common_steps)

pub returns-else-pixels-lt2-clause-no_background : goal.returns-else-pixels-lt2-clause-no_background
returns-else-pixels-lt2-clause-no_background c = grind (arith, common_steps)

pub returns-then-pixels-lt2-clause-own_color : goal.returns-then-pixels-lt2-clause-own_color
returns-then-pixels-lt2-clause-own_color c = grind (arith, common_steps)

pub returns-else-pixels-lt2-clause-own_color : goal.returns-else-pixels-lt2-clause-own_color
returns-else-pixels-lt2-clause-own_color c = grind (arith, common_steps)
