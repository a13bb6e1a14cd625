use Rattle.std.proofs.Common.{rules}
use Rattle.gcc_per.proofs.client_blocks.least_length.Goals as goal

pub returns-in-ClientCore-clause-length : goal.returns-in-ClientCore-clause-length
returns-in-ClientCore-clause-length c = search rules
