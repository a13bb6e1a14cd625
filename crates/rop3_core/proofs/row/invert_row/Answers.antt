use Rattle.std.proofs.Common.{rules}
use Rattle.rop3_core.proofs.row.invert_row.Goals as goal

pub loop-i-preserved : goal.loop-i-preserved
loop-i-preserved c = search rules

pub returns : goal.returns
returns c = search rules
