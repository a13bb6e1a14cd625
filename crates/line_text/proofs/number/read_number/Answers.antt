use Rattle.std.proofs.Common.{rules}
use Rattle.line_text.proofs.number.read_number.Goals as goal

pub returns-in_default-clause-value : goal.returns-in_default-clause-value
returns-in_default-clause-value c = search rules
