use Rattle.std.proofs.Common.{rules}
use Rattle.edge_io.proofs.file_in.FileInSource.read.Goals as goal

pub returns-in-Err-clause-cause : goal.returns-in-Err-clause-cause
returns-in-Err-clause-cause g c = search rules
