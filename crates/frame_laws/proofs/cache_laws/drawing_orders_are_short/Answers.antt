use Rattle.frame_laws.proofs.OrderShort.{drawing_short}
use Rattle.frame_laws.proofs.cache_laws.drawing_orders_are_short.Goals as goal

pub returns : goal.returns
returns k = drawing_short
