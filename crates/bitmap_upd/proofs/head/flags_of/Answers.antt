use Rattle.std.proofs.Common.{rules}
use Rattle.bitmap_upd.proofs.head.flags_of.Goals as goal

pub returns-then-is_packed : goal.returns-then-is_packed
returns-then-is_packed c = search rules
