use Rattle.std.proofs.Common.{rules}
use Rattle.surface_parts.proofs.line.risen.Goals as goal

pub returns-clause-rise : goal.returns-clause-rise
returns-clause-rise c = search rules
