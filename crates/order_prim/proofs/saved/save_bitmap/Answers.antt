use Rattle.std.proofs.Common.{rules}
use Rattle.order_prim.proofs.saved.save_bitmap.Goals as goal

pub returns-then-restore : goal.returns-then-restore
returns-then-restore c = search rules
