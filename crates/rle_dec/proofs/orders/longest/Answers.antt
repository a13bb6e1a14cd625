use Rattle.std.proofs.Common.{rules}
use Rattle.rle_dec.proofs.orders.longest.Goals as goal

pub returns-in-DitheredRun-clause-is : goal.returns-in-DitheredRun-clause-is
returns-in-DitheredRun-clause-is c = search rules
