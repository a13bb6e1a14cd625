use Rattle.std.proofs.Common.{rules}
use Rattle.px_core.proofs.surface.is_session_size.Goals as goal

pub returns-then-is_high : goal.returns-then-is_high
returns-then-is_high c = search rules
