use Rattle.std.proofs.Common.{rules}
use Rattle.info_lic.proofs.name.Name.bytes.Goals as goal

pub returns-clause-value : goal.returns-clause-value
returns-clause-value c = search rules
