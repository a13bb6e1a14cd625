use Rattle.edge_io.proofs.Lists.{supply_takes}
use Rattle.edge_io.proofs.bytes.BytesSource.read.Goals as goal

pub returns-clause-bytes : goal.returns-clause-bytes
returns-clause-bytes c = supply_takes _ _ _ _ _ c.requires c.hand_out.ensures.answer c.hand_out.ensures.buffer c.hand_out.ensures.after
