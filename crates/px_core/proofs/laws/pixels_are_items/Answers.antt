use Rattle.std.proofs.Common.{◌+◌, ◌*◌}
use Rattle.px_core.proofs.Pictures.{item-get_or}
use Rattle.px_core.proofs.laws.pixels_are_items.Goals as goal

pub returns : goal.returns
returns c = λ size ps x y. item-get_or ps (size.w * y + x) 0
