use Rattle.std.proofs.Common.{rules}
use Rattle.gcc_per.proofs.client_blocks.is_new.Goals as goal

pub returns-in-ClientNetwork : goal.returns-in-ClientNetwork
returns-in-ClientNetwork c = search rules
