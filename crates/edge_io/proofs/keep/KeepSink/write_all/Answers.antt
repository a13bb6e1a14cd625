use Rattle.std.proofs.Common.{rules}
use Rattle.edge_io.proofs.keep.KeepSink.write_all.Goals as goal

pub returns-clause-cause : goal.returns-clause-cause
returns-clause-cause c = search rules
