use Rattle.std.proofs.Common.{rules}
use Rattle.surface_parts.proofs.mix.repeat_columns.Goals as goal

pub loop-k-preserved : goal.loop-k-preserved
loop-k-preserved c = search rules
