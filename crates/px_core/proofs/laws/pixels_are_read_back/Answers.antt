use Rattle.px_core.proofs.Pixels.{pixels_back}
use Rattle.px_core.proofs.laws.pixels_are_read_back.Goals as goal

pub returns : goal.returns
returns c = pixels_back
