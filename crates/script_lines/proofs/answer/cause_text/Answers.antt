use Rattle.std.proofs.Common.{rules}
use Rattle.script_lines.proofs.answer.cause_text.Goals as goal

pub returns : goal.returns
returns c = search rules
