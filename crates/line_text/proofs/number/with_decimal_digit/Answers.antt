use Rattle.std.proofs.Common.{rules}
use Rattle.line_text.proofs.number.with_decimal_digit.Goals as goal

pub returns-else-next-most-clause-value : goal.returns-else-next-most-clause-value
returns-else-next-most-clause-value c = search rules
