use Rattle.std.proofs.Common.{rules}
use Rattle.surface_parts.proofs.part.frame.Goals as goal

pub returns-in-Some-clause-pixels : goal.returns-in-Some-clause-pixels
returns-in-Some-clause-pixels c = search rules
