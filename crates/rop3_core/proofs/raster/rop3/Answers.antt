use Rattle.std.proofs.Common.{rules}
use Rattle.rop3_core.proofs.raster.rop3.Goals as goal

pub returns : goal.returns
returns c = search rules
