use Rattle.std.proofs.Common.{rules}
use Rattle.script_lines.proofs.field.next_color.Goals as goal

pub returns : goal.returns
returns c = search rules
