use Rattle.std.proofs.Common.{rules}
use Rattle.script_lines.proofs.event.read_direction.Goals as goal

pub returns-then-is_same_word-2 : goal.returns-then-is_same_word-2
returns-then-is_same_word-2 c = search rules
