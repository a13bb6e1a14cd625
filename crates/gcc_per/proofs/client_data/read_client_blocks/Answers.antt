use Rattle.std.proofs.Common.{rules}
use Rattle.gcc_per.specs.ClientData.{client_blocks_at}
use Rattle.gcc_per.proofs.client_data.read_client_blocks.Goals as goal

pub returns-in-None : goal.returns-in-None
unfolding client_blocks_at
returns-in-None c = search rules
