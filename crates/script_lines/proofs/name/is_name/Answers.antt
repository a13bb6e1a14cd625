use Rattle.std.proofs.Common.{rules}
use Rattle.script_lines.proofs.name.is_name.Goals as goal

pub returns-then-word-le-NAME_LIMIT : goal.returns-then-word-le-NAME_LIMIT
returns-then-word-le-NAME_LIMIT c = search rules
