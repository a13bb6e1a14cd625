use Rattle.std.proofs.Common.{rules}
use Rattle.script_lines.proofs.rule.LineRule.number.Goals as goal

pub returns-in-Name-clause-value : goal.returns-in-Name-clause-value
returns-in-Name-clause-value c = search rules
